-- What `csv` reads of a text whose long rows are cut: each row's first bytes.
use Rattle.std.proofs.Common.{◌≡◌, ℕ, zero, suc, ◌+◌, ◌<◌, ◌≤◌, ◌∙◌, Bool, true, false, List, [], ◌∷◌, ◌++◌, length, map, Option, Some, None, refl, sym, ap, inl, inr, arith, append_assoc, append-nil, length-append}
use Rattle.std.specs.Prelude.{if◌then◌else◌, ⊤}
use Rattle.csv.specs.Machine.{Read, ends_at_end, field_after, fields_after, is_end, next_record, step}
use Rattle.csv.specs.Reading.{default_config, records_from, records_next}
use Rattle.csv.specs.declared.parser.Action.{Action}
use Rattle.csv.specs.declared.parser.Action.TheVariants as act
use Rattle.csv.specs.declared.parser.State.{State}
use Rattle.csv.specs.declared.parser.State.TheVariants as st
use Rattle.table_core.specs.Rows.{Fields}
use Rattle.rating.proofs.FrontRows.{front_cut, front_whole, weight, weight_more}
use Rattle.rating.proofs.StepLemmas.{GoesBy, IsInRow, IsOpen, IsState, step_goes}
use Rattle.rating.specs.Cuts.{IsBetween, closing, cut_from, passed_on, room_after}
use Rattle.rating.specs.Lines.{front}

-- ---- states

row_ends : (s : State) → IsInRow s → ends_at_end s ≡ true
row_ends st.StartField in_row = refl
row_ends st.InField in_row = refl
row_ends st.InQuoted in_row = refl
row_ends st.AfterQuote in_row = refl
row_ends st.StartRecord in_row = absurd in_row
row_ends st.AfterCr in_row = absurd in_row
row_ends st.InEscape in_row = absurd in_row
row_ends st.InComment in_row = absurd in_row

open_row : (s : State) → IsOpen s → IsInRow s
open_row st.StartField exit = tt
open_row st.InField exit = tt
open_row st.AfterQuote exit = tt
open_row st.InQuoted exit = absurd exit
open_row st.StartRecord exit = absurd exit
open_row st.AfterCr exit = absurd exit
open_row st.InEscape exit = absurd exit
open_row st.InComment exit = absurd exit

pub between_ends : (s : State) → IsBetween s → ends_at_end s ≡ false
between_ends s (inl is) = rw is refl
between_ends s (inr is) = rw is refl

not_both : (s : State) → IsInRow s → IsBetween s → ⊥
not_both s in_row between = let no : true ≡ false = sym (row_ends s in_row) ∙ between_ends s between in cc

-- ---- a record goes on with what was read of it

abbrev Extends : Fields → List ℕ → Option Read → Type 0
Extends fields field None = ⊤
Extends fields field (Some read) = (more : List ℕ) × (others : Fields) × (read.0 ≡ fields ++ (field ++ more) ∷ others)

extends_byte : (fields : Fields) (field : List ℕ) (c : ℕ) (read : Option Read) → Extends fields (field ++ c ∷ []) read → Extends fields field read
extends_byte fields field c None h = tt
extends_byte fields field c (Some read) h = (c ∷ h.0, h.1, h.2 ∙ ap (λ f. fields ++ f ∷ h.1) (append_assoc field (c ∷ []) h.0))

extends_field : (fields : Fields) (field : List ℕ) (read : Option Read) → Extends (fields ++ field ∷ []) [] read → Extends fields field read
extends_field fields field None h = tt
extends_field fields field (Some read) h =
    ([], h.0 ∷ h.1, h.2 ∙ append_assoc fields (field ∷ []) (h.0 ∷ h.1) ∙ ap (λ f. fields ++ f ∷ h.0 ∷ h.1) (sym (append-nil field)))

extends_end : (fields : Fields) (field : List ℕ) (s : State) (rest : List ℕ) → Extends fields field (Some (fields ++ field ∷ [], s, rest))
extends_end fields field s rest = ([], [], ap (λ f. fields ++ f ∷ []) (sym (append-nil field)))

extends_last : (fields : Fields) (field : List ℕ) (b : Bool) → Extends fields field (if b then Some (fields ++ field ∷ [], st.StartRecord, []) else None)
extends_last fields field true = extends_end fields field st.StartRecord []
extends_last fields field false = tt

extends_by : (fields : Fields) (field : List ℕ) (c : ℕ) (rest : List ℕ) (to : State) (a : Action)
    → ((fields : Fields) (field : List ℕ) → Extends fields field (next_record default_config to fields field rest))
    → Extends fields field (if is_end a then Some (fields_after a fields field, to, rest) else next_record default_config to (fields_after a fields field) (field_after a c field) rest)
extends_by fields field c rest to act.EndRecord ih = extends_end fields field to rest
extends_by fields field c rest to act.Copy ih = extends_byte fields field c _ (ih fields (field ++ c ∷ []))
extends_by fields field c rest to act.EndField ih = extends_field fields field _ (ih (fields ++ field ∷ []) [])
extends_by fields field c rest to act.Skip ih = ih fields field

extends : (s : State) (fields : Fields) (field text : List ℕ) → Extends fields field (next_record default_config s fields field text)
unfolding next_record
extends s fields field [] = extends_last fields field (ends_at_end s)
extends s fields field (c ∷ rest) =
    extends_by fields field c rest (step default_config s c).0 (step default_config s c).1 (λ fields field. extends (step default_config s c).0 fields field rest)

module _ (most : ℕ) where
  -- ---- the rest of a row that was cut is passed over

  -- the row ends where it would have ended, with what was read of it before
  abbrev EndsSame : Fields → List ℕ → Option Read → Option Read → Type 0
  EndsSame fields field None read = ⊥
  EndsSame fields field (Some whole) read = read ≡ Some (fields ++ field ∷ [], whole.1, cut_from most whole.1 (Some most) whole.2)

  rest_by : (s : State) (fields kept : Fields) (field last : List ℕ) (c : ℕ) (rest : List ℕ) (exit to : State) (a : Action) → IsInRow s → IsOpen exit → GoesBy s c to a
      → (IsInRow to → (fields : Fields) (field : List ℕ) → EndsSame kept last (next_record default_config to fields field rest) (next_record default_config exit kept last (cut_from most to None rest)))
      → EndsSame kept last (if is_end a then Some (fields_after a fields field, to, rest) else next_record default_config to (fields_after a fields field) (field_after a c field) rest)
      (next_record default_config exit kept last (passed_on a s None c ++ cut_from most to (room_after most a None) rest))
  unfolding next_record
  rest_by s fields kept field last c rest exit to act.EndRecord in_row is_open goes ih = rw (goes.1 exit is_open) refl
  rest_by s fields kept field last c rest exit to act.Copy in_row is_open goes ih = ih goes fields (field ++ c ∷ [])
  rest_by s fields kept field last c rest exit to act.EndField in_row is_open goes ih = ih goes (fields ++ field ∷ []) []
  rest_by s fields kept field last c rest exit to act.Skip in_row is_open (inl goes) ih = ih goes fields field
  rest_by s fields kept field last c rest exit to act.Skip in_row is_open (inr goes) ih = absurd (not_both s in_row goes.0)

  rest_cut : (s : State) (fields kept : Fields) (field last text : List ℕ) (exit : State) → IsInRow s → IsOpen exit
      → EndsSame kept last (next_record default_config s fields field text) (next_record default_config exit kept last (cut_from most s None text))
  unfolding next_record cut_from
  rest_cut s fields kept field last [] exit in_row is_open = rw (row_ends s in_row, row_ends exit (open_row exit is_open)) refl
  rest_cut s fields kept field last (c ∷ rest) exit in_row is_open =
      rest_by s fields kept field last c rest exit (step default_config s c).0 (step default_config s c).1 in_row is_open (step_goes s c (inl in_row))
      (λ goes fields field. rest_cut (step default_config s c).0 fields kept field last rest exit goes is_open)

  -- ---- a row

  -- a row is read as its first bytes, and the text goes on behind it
  abbrev IsCut : Option Read → Option Read → Type 0
  IsCut None read = read ≡ None
  IsCut (Some whole) read = read ≡ Some (front most whole.0, whole.1, cut_from most whole.1 (Some most) whole.2)

  closed : (s : State) (fields : Fields) (field text : List ℕ) → IsInRow s
      → (exit : State) × IsOpen exit × (next_record default_config s fields field (closing s ++ text) ≡ next_record default_config exit fields field text)
  unfolding next_record
  closed st.StartField fields field text in_row = (st.StartField, tt, refl)
  closed st.InField fields field text in_row = (st.InField, tt, refl)
  closed st.AfterQuote fields field text in_row = (st.AfterQuote, tt, refl)
  closed st.InQuoted fields field text in_row = (st.AfterQuote, tt, refl)
  closed st.StartRecord fields field text in_row = absurd in_row
  closed st.AfterCr fields field text in_row = absurd in_row
  closed st.InEscape fields field text in_row = absurd in_row
  closed st.InComment fields field text in_row = absurd in_row

  full_is : (fields : Fields) (field : List ℕ) (whole read : Option Read) → EndsSame fields field whole read → Extends fields field whole → weight fields + length field ≡ most → IsCut whole read
  full_is fields field None read same more full = absurd same
  full_is fields field (Some whole) read same more full =
      let is : front most whole.0 ≡ fields ++ field ∷ [] = ap (λ l. front most l) more.2 ∙ front_cut fields field more.0 more.1 most full in
      rw is same

  -- a byte for which there is no room
  full_row : (s to : State) (fields more : Fields) (field other rest : List ℕ) → IsInRow s → IsInRow to → weight fields + length field ≡ most
      → Extends fields field (next_record default_config to more other rest)
      → IsCut (next_record default_config to more other rest) (next_record default_config s fields field (closing s ++ cut_from most to None rest))
  full_row s to fields more field other rest in_row to_row full goes_on =
      let shut = closed s fields field (cut_from most to None rest) in_row in
      rw shut.2 (full_is fields field _ _ (rest_cut to more fields other field rest shut.0 to_row shut.1) goes_on full)

  cut_by : (s to : State) (fields : Fields) (field : List ℕ) (c room : ℕ) (rest : List ℕ) (a : Action) → step default_config s c ≡ (to, a) → IsState s → GoesBy s c to a
      → (IsBetween s → room ≡ most) → 0 < most → weight fields + length field + room ≡ most
      → ((fields : Fields) (field : List ℕ) (room : ℕ) → IsState to → (IsBetween to → room ≡ most) → weight fields + length field + room ≡ most
      → IsCut (next_record default_config to fields field rest) (next_record default_config to fields field (cut_from most to (Some room) rest)))
      → IsCut (if is_end a then Some (fields_after a fields field, to, rest) else next_record default_config to (fields_after a fields field) (field_after a c field) rest)
      (next_record default_config s fields field (passed_on a s (Some room) c ++ cut_from most to (room_after most a (Some room)) rest))
  unfolding next_record
  cut_by s to fields field c room rest act.EndRecord is at goes free some full ih =
      rw (is, front_whole fields field most (omega (arith, full))) refl
  cut_by s to fields field c room rest act.Skip is at (inl goes) free some full ih =
      rw is (ih fields field room (inl goes) (λ between. absurd (not_both to goes between)) full)
  cut_by s to fields field c room rest act.Skip is at (inr goes) free some full ih =
      rw is (ih fields field room (inr goes.1) (λ _. free goes.0) full)
  cut_by s to fields field c (suc room) rest act.Copy is at goes free some full ih =
      rw is (ih fields (field ++ c ∷ []) room (inl goes) (λ between. absurd (not_both to goes between)) (omega (arith, full, length-append field (c ∷ []))))
  cut_by s to fields field c (suc room) rest act.EndField is at goes free some full ih =
      rw is (ih (fields ++ field ∷ []) [] room (inl goes) (λ between. absurd (not_both to goes between)) (omega (arith, full, weight_more fields field)))
  cut_by s to fields field c zero rest act.Copy is (inl in_row) goes free some full ih =
      full_row s to fields fields field (field ++ c ∷ []) rest in_row goes (omega (arith, full)) (extends_byte fields field c _ (extends to fields (field ++ c ∷ []) rest))
  cut_by s to fields field c zero rest act.EndField is (inl in_row) goes free some full ih =
      full_row s to fields (fields ++ field ∷ []) field [] rest in_row goes (omega (arith, full)) (extends_field fields field _ (extends to (fields ++ field ∷ []) [] rest))
  cut_by s to fields field c zero rest act.Copy is (inr between) goes free some full ih = absurd (omega (arith, free between, some))
  cut_by s to fields field c zero rest act.EndField is (inr between) goes free some full ih = absurd (omega (arith, free between, some))

  last_cut : (fields : Fields) (field : List ℕ) (b : Bool) → weight fields + length field ≤ most
      → IsCut (if b then Some (fields ++ field ∷ [], st.StartRecord, []) else None) (if b then Some (fields ++ field ∷ [], st.StartRecord, []) else None)
  unfolding cut_from
  last_cut fields field true within = rw (front_whole fields field most within) refl
  last_cut fields field false within = refl

  pub record_cut : (s : State) (fields : Fields) (field : List ℕ) (room : ℕ) (text : List ℕ) → IsState s → (IsBetween s → room ≡ most) → 0 < most
      → weight fields + length field + room ≡ most
      → IsCut (next_record default_config s fields field text) (next_record default_config s fields field (cut_from most s (Some room) text))
  unfolding next_record cut_from
  record_cut s fields field room [] at free some full = last_cut fields field (ends_at_end s) (omega (arith, full))
  record_cut s fields field room (c ∷ rest) at free some full =
      cut_by s (step default_config s c).0 fields field c room rest (step default_config s c).1 refl at (step_goes s c at) free some full
      (λ fields field room at free full. record_cut (step default_config s c).0 fields field room rest at free some full)

-- ---- a row leaves a shorter text

abbrev Shrinks : ℕ → Option Read → Type 0
Shrinks count None = ⊤
Shrinks count (Some read) = IsBetween read.1 × (length read.2 < count)

shrinks_more : (count more : ℕ) (read : Option Read) → count < more + 1 → Shrinks count read → Shrinks more read
shrinks_more count more None most h = tt
shrinks_more count more (Some read) most h = (h.0, omega (arith, h.1))

shrinks_by : (s to : State) (fields : Fields) (field : List ℕ) (c : ℕ) (rest : List ℕ) (a : Action) → GoesBy s c to a
    → ((fields : Fields) (field : List ℕ) → IsState to → Shrinks (length rest + 1) (next_record default_config to fields field rest))
    → Shrinks (length rest + 1) (if is_end a then Some (fields_after a fields field, to, rest) else next_record default_config to (fields_after a fields field) (field_after a c field) rest)
shrinks_by s to fields field c rest act.EndRecord goes ih = (goes.0, omega arith)
shrinks_by s to fields field c rest act.Copy goes ih = ih fields (field ++ c ∷ []) (inl goes)
shrinks_by s to fields field c rest act.EndField goes ih = ih (fields ++ field ∷ []) [] (inl goes)
shrinks_by s to fields field c rest act.Skip (inl goes) ih = ih fields field (inl goes)
shrinks_by s to fields field c rest act.Skip (inr goes) ih = ih fields field (inr goes.1)

last_shrinks : (fields : Fields) (field : List ℕ) (b : Bool) → Shrinks 1 (if b then Some (fields ++ field ∷ [], st.StartRecord, []) else None)
last_shrinks fields field true = (inl refl, omega arith)
last_shrinks fields field false = tt

record_shrinks : (s : State) (fields : Fields) (field text : List ℕ) → IsState s → Shrinks (length text + 1) (next_record default_config s fields field text)
unfolding next_record
record_shrinks s fields field [] at = last_shrinks fields field (ends_at_end s)
record_shrinks s fields field (c ∷ rest) at =
    shrinks_more (length rest + 1) (length (c ∷ rest) + 1) _ (omega arith)
    (shrinks_by s (step default_config s c).0 fields field c rest (step default_config s c).1 (step_goes s c at)
    (λ fields field at. record_shrinks (step default_config s c).0 fields field rest at))

first_shrinks : (s : State) (text : List ℕ) → IsBetween s → Shrinks (length text) (next_record default_config s [] [] text)
unfolding next_record
first_shrinks s [] between = rw (between_ends s between) tt
first_shrinks s (c ∷ rest) between =
    shrinks_more (length rest + 1) (length (c ∷ rest)) _ (omega arith)
    (shrinks_by s (step default_config s c).0 [] [] c rest (step default_config s c).1 (step_goes s c (inr between))
    (λ fields field at. record_shrinks (step default_config s c).0 fields field rest at))

-- ---- all rows

rows_by : (most fuel left : ℕ) (whole read : Option Read) (size count : ℕ) → IsCut most whole read → Shrinks size whole → Shrinks count read → size < suc fuel → count < suc left
    → ((s : State) (text : List ℕ) → IsBetween s → length text < fuel → length (cut_from most s (Some most) text) < left
    → records_from default_config left s (cut_from most s (Some most) text) ≡ map (front most) (records_from default_config fuel s text))
    → records_next (records_from default_config left) read ≡ map (front most) (records_next (records_from default_config fuel) whole)
rows_by most fuel left None read size count cut shrinks less enough fits ih = rw cut refl
rows_by most fuel left (Some whole) read size count cut shrinks less enough fits ih =
    let small = rw cut at less in
    rw cut (ap (λ l. front most whole.0 ∷ l) (ih whole.1 whole.2 shrinks.0 (omega (arith, shrinks.1, enough)) (omega (arith, small.1, fits))))

empty_weight : (most : ℕ) → weight [] + 0 + most ≡ most
unfolding weight
empty_weight most = omega arith

pub rows_cut : (most fuel left : ℕ) (s : State) (text : List ℕ) → 0 < most → IsBetween s → length text < fuel → length (cut_from most s (Some most) text) < left
    → records_from default_config left s (cut_from most s (Some most) text) ≡ map (front most) (records_from default_config fuel s text)
unfolding records_from
rows_cut most zero left s text some between enough fits = absurd (omega (arith, enough))
rows_cut most (suc fuel) zero s text some between enough fits = absurd (omega (arith, fits))
rows_cut most (suc fuel) (suc left) s text some between enough fits =
    rows_by most fuel left (next_record default_config s [] [] text) (next_record default_config s [] [] (cut_from most s (Some most) text)) (length text)
    (length (cut_from most s (Some most) text))
    (record_cut most s [] [] most text (inr between) (λ _. refl) some (empty_weight most))
    (first_shrinks s text between) (first_shrinks s (cut_from most s (Some most) text) between) enough fits
    (λ s text between enough fits. rows_cut most fuel left s text some between enough fits)
