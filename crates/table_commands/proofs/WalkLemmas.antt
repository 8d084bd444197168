-- How a walk goes through the rows of a table.
use Rattle.std.proofs.Common.{◌≡◌, ◌∙◌, ◌+◌, ◌<◌, ◌≤◌, ℕ, zero, suc, Bool, true, false, Some, None, List, [], ◌∷◌, ◌++◌, length, take, drop, get_or, drop-cons, refl, sym, ap, inl, inr, arith, append_assoc, append-nil, length-append}
use Rattle.std.specs.Prelude.{if◌then◌else◌, ◌==◌}
use Rattle.std.proofs.lemmas.List.{take-append-drop}
use Rattle.std.proofs.lemmas.Bool.Decides.{nat_tests}
use Rattle.rating.proofs.RecordCuts.{between_ends}
use Rattle.rating.specs.Cuts.{IsBetween}
use Rattle.csv.specs.Machine.{ends_at_end, field_after, fields_after, is_end, next_record, step}
use Rattle.csv.specs.Reading.{default_config, records, records_from, records_next}
use Rattle.csv.specs.declared.parser.Action.{Action}
use Rattle.csv.specs.declared.parser.Action.TheVariants as act
use Rattle.csv.specs.declared.parser.State.{State}
use Rattle.csv.specs.declared.parser.State.TheVariants as st
use Rattle.table_core.specs.Rows.{Fields}
use Rattle.table_commands.specs.RowStarts.{BeginsLine, is_line_end}
use Rattle.table_commands.specs.Walks.{BeginsRowBehind, HasFewerBehind, HasAtHand, HasWalked, IsPlace, StepsMachine, begins_row, ends_row, met_at, rows_after}
use Rattle.table_commands.specs.declared.explanations.walk.Place.{Place}
use Rattle.table_commands.specs.declared.explanations.walk.Place.TheVariants as place

-- ---- the rows of a text, one byte after another

last_row : (fuel : ℕ) (b : Bool) (row : Fields)
    → records_next (records_from default_config fuel) (if b then Some (row, st.StartRecord, []) else None) ≡ (if b then row ∷ [] else [])
unfolding records_from next_record
last_row zero true row = refl
last_row (suc fuel) true row = refl
last_row fuel false row = refl

-- what is read of a text from a state, whatever is at hand
abbrev AreNext : List ℕ → Type 0
AreNext text = (fuel : ℕ) (s : State) (fields : Fields) (field : List ℕ) → length text ≤ fuel
    → records_next (records_from default_config fuel) (next_record default_config s fields field text) ≡ rows_after s fields field text

by_end : (b : Bool) (fuel : ℕ) (row : Fields) (s : State) (fields : Fields) (field rest : List ℕ) → AreNext rest → length rest + 1 ≤ fuel
    → records_next (records_from default_config fuel) (if b then Some (row, s, rest) else next_record default_config s fields field rest)
    ≡ (if b then row ∷ rows_after s [] [] rest else rows_after s fields field rest)
unfolding records_from
by_end true zero row s fields field rest more enough = absurd (omega (arith, enough))
by_end true (suc fuel) row s fields field rest more enough = ap (λ rows. row ∷ rows) (more fuel s [] [] (omega (arith, enough)))
by_end false fuel row s fields field rest more enough = more fuel s fields field (omega (arith, enough))

next_rows : (text : List ℕ) → AreNext text
unfolding next_record rows_after
next_rows [] = λ fuel s fields field enough. last_row fuel (ends_at_end s) (fields ++ field ∷ [])
next_rows (c ∷ rest) = λ fuel s fields field enough.
    by_end (is_end (step default_config s c).1) fuel (fields_after (step default_config s c).1 fields field) (step default_config s c).0 (fields_after (step default_config s c).1 fields field)
    (field_after (step default_config s c).1 c field) rest (next_rows rest) (omega (arith, enough))

from_next : (m n : ℕ) (s : State) (text : List ℕ) → m ≡ suc n → records_from default_config m s text ≡ records_next (records_from default_config n) (next_record default_config s [] [] text)
unfolding records_from
from_next m n s text is = rw is refl

pub records_are : (text : List ℕ) → records default_config text ≡ rows_after st.StartRecord [] [] text
records_are text =
    from_next (length text + 1) (length text) st.StartRecord text (omega arith) ∙ next_rows text (length text) st.StartRecord [] [] (omega arith)

-- ---- a byte more

goes_on : (s : State) (fields : Fields) (field : List ℕ) (c : ℕ) (rest : List ℕ) → is_end (step default_config s c).1 ≡ false
    → rows_after s fields field (c ∷ rest)
    ≡ rows_after (step default_config s c).0 (fields_after (step default_config s c).1 fields field) (field_after (step default_config s c).1 c field) rest
unfolding rows_after
goes_on s fields field c rest is = rw is refl

ends : (s : State) (fields : Fields) (field : List ℕ) (c : ℕ) (rest : List ℕ) → is_end (step default_config s c).1 ≡ true
    → rows_after s fields field (c ∷ rest) ≡ fields_after (step default_config s c).1 fields field ∷ rows_after (step default_config s c).0 [] [] rest
unfolding rows_after
ends s fields field c rest is = rw is refl

module _ (from : Place) (n : ℕ) (front : List ℕ) (c : ℕ) (walked : HasWalked (record { place = from; above = n }) front) where
  -- within a row
  to_next : (to : Place) → IsPlace to (step default_config walked.state c).0 → HasAtHand to (fields_after (step default_config walked.state c).1 walked.fields walked.field) (field_after (step default_config walked.state c).1 c walked.field)
      → is_end (step default_config walked.state c).1 ≡ false → HasWalked (record { place = to; above = n }) (front ++ c ∷ [])
  to_next to at_place at_hand is = record {
    state = (step default_config walked.state c).0;
    fields = fields_after (step default_config walked.state c).1 walked.fields walked.field;
    field = field_after (step default_config walked.state c).1 c walked.field;
    rows = walked.rows;
    at_place = at_place;
    at_hand = at_hand;
    count = walked.count;
    goes_on = λ rest.
        ap (records default_config) (append_assoc front (c ∷ []) rest) ∙ walked.goes_on (c ∷ rest)
        ∙ ap (λ rows. walked.rows ++ rows) (goes_on walked.state walked.fields walked.field c rest is);
  }

  -- to the end of a row
  to_end : IsBetween (step default_config walked.state c).0 → is_end (step default_config walked.state c).1 ≡ true
      → HasWalked (record { place = place.Between; above = n + 1 }) (front ++ c ∷ [])
  to_end between is = record {
    state = (step default_config walked.state c).0;
    fields = [];
    field = [];
    rows = walked.rows ++ fields_after (step default_config walked.state c).1 walked.fields walked.field ∷ [];
    at_place = between;
    at_hand = (refl, refl);
    count = length-append walked.rows (fields_after (step default_config walked.state c).1 walked.fields walked.field ∷ []) ∙ ap (λ k. k + 1) walked.count;
    goes_on = λ rest.
        ap (records default_config) (append_assoc front (c ∷ []) rest) ∙ walked.goes_on (c ∷ rest)
        ∙ ap (λ rows. walked.rows ++ rows) (ends walked.state walked.fields walked.field c rest is)
        ∙ sym (append_assoc walked.rows (fields_after (step default_config walked.state c).1 walked.fields walked.field ∷ []) (rows_after (step default_config walked.state c).0 [] [] rest));
  }

-- past the end of a line between two rows
skipped : (fields : Fields) (field : List ℕ) (c : ℕ) (a : Action) → a ≡ act.Skip → (fields ≡ []) × (field ≡ []) → (fields_after a fields field ≡ []) × (field_after a c field ≡ [])
skipped fields field c a is none = rw is none

skips : (a : Action) → a ≡ act.Skip → is_end a ≡ false
skips a is = rw is refl

-- the walk behind a byte
pub goes_to : (from to : Place) (n : ℕ) (front : List ℕ) (c : ℕ) → StepsMachine from to c → HasWalked (record { place = from; above = n }) front
    → HasWalked (record { place = to; above = if ends_row from to then n + 1 else n }) (front ++ c ∷ [])
goes_to place.Between place.Between n front c steps walked =
    let step_is = steps walked.state walked.at_place in
    to_next place.Between n front c walked place.Between step_is.0 (skipped walked.fields walked.field c _ step_is.1 walked.at_hand) (skips _ step_is.1)
goes_to place.Between place.StartField n front c steps walked =
    let step_is = steps walked.state walked.at_place in to_next place.Between n front c walked place.StartField step_is.0 tt step_is.1
goes_to place.Between place.InField n front c steps walked =
    let step_is = steps walked.state walked.at_place in to_next place.Between n front c walked place.InField step_is.0 tt step_is.1
goes_to place.Between place.InQuoted n front c steps walked =
    let step_is = steps walked.state walked.at_place in to_next place.Between n front c walked place.InQuoted step_is.0 tt step_is.1
goes_to place.Between place.AfterQuote n front c steps walked =
    let step_is = steps walked.state walked.at_place in to_next place.Between n front c walked place.AfterQuote step_is.0 tt step_is.1
goes_to place.StartField place.Between n front c steps walked =
    let step_is = steps walked.state walked.at_place in to_end place.StartField n front c walked step_is.0 step_is.1
goes_to place.StartField place.StartField n front c steps walked =
    let step_is = steps walked.state walked.at_place in to_next place.StartField n front c walked place.StartField step_is.0 tt step_is.1
goes_to place.StartField place.InField n front c steps walked =
    let step_is = steps walked.state walked.at_place in to_next place.StartField n front c walked place.InField step_is.0 tt step_is.1
goes_to place.StartField place.InQuoted n front c steps walked =
    let step_is = steps walked.state walked.at_place in to_next place.StartField n front c walked place.InQuoted step_is.0 tt step_is.1
goes_to place.StartField place.AfterQuote n front c steps walked =
    let step_is = steps walked.state walked.at_place in to_next place.StartField n front c walked place.AfterQuote step_is.0 tt step_is.1
goes_to place.InField place.Between n front c steps walked =
    let step_is = steps walked.state walked.at_place in to_end place.InField n front c walked step_is.0 step_is.1
goes_to place.InField place.StartField n front c steps walked =
    let step_is = steps walked.state walked.at_place in to_next place.InField n front c walked place.StartField step_is.0 tt step_is.1
goes_to place.InField place.InField n front c steps walked =
    let step_is = steps walked.state walked.at_place in to_next place.InField n front c walked place.InField step_is.0 tt step_is.1
goes_to place.InField place.InQuoted n front c steps walked =
    let step_is = steps walked.state walked.at_place in to_next place.InField n front c walked place.InQuoted step_is.0 tt step_is.1
goes_to place.InField place.AfterQuote n front c steps walked =
    let step_is = steps walked.state walked.at_place in to_next place.InField n front c walked place.AfterQuote step_is.0 tt step_is.1
goes_to place.InQuoted place.Between n front c steps walked =
    let step_is = steps walked.state walked.at_place in to_end place.InQuoted n front c walked step_is.0 step_is.1
goes_to place.InQuoted place.StartField n front c steps walked =
    let step_is = steps walked.state walked.at_place in to_next place.InQuoted n front c walked place.StartField step_is.0 tt step_is.1
goes_to place.InQuoted place.InField n front c steps walked =
    let step_is = steps walked.state walked.at_place in to_next place.InQuoted n front c walked place.InField step_is.0 tt step_is.1
goes_to place.InQuoted place.InQuoted n front c steps walked =
    let step_is = steps walked.state walked.at_place in to_next place.InQuoted n front c walked place.InQuoted step_is.0 tt step_is.1
goes_to place.InQuoted place.AfterQuote n front c steps walked =
    let step_is = steps walked.state walked.at_place in to_next place.InQuoted n front c walked place.AfterQuote step_is.0 tt step_is.1
goes_to place.AfterQuote place.Between n front c steps walked =
    let step_is = steps walked.state walked.at_place in to_end place.AfterQuote n front c walked step_is.0 step_is.1
goes_to place.AfterQuote place.StartField n front c steps walked =
    let step_is = steps walked.state walked.at_place in to_next place.AfterQuote n front c walked place.StartField step_is.0 tt step_is.1
goes_to place.AfterQuote place.InField n front c steps walked =
    let step_is = steps walked.state walked.at_place in to_next place.AfterQuote n front c walked place.InField step_is.0 tt step_is.1
goes_to place.AfterQuote place.InQuoted n front c steps walked =
    let step_is = steps walked.state walked.at_place in to_next place.AfterQuote n front c walked place.InQuoted step_is.0 tt step_is.1
goes_to place.AfterQuote place.AfterQuote n front c steps walked =
    let step_is = steps walked.state walked.at_place in to_next place.AfterQuote n front c walked place.AfterQuote step_is.0 tt step_is.1

pub goes_as : (from to : Place) (n above : ℕ) (front : List ℕ) (c : ℕ) (ended : Bool) → ended ≡ ends_row from to → above ≡ (if ended then n + 1 else n) → StepsMachine from to c
    → HasWalked (record { place = from; above = n }) front → HasWalked (record { place = to; above = above }) (front ++ c ∷ [])
goes_as from to n above front c ended is above_is steps walked = rw (above_is, is) (goes_to from to n front c steps walked)

-- ---- where a row begins

nothing_after : (s : State) (fields : Fields) (field : List ℕ) → IsBetween s → rows_after s fields field [] ≡ []
unfolding rows_after
nothing_after s fields field between = rw (between_ends s between) refl

no_feed : (c : ℕ) → is_line_end c ≡ false → (c == 10) ≡ false
no_feed c is = grind (arith, nat_tests)

begins_alike : (s : State) (c : ℕ) → IsBetween s → is_line_end c ≡ false → step default_config s c ≡ step default_config st.StartRecord c
begins_alike s c (inl is) other = rw is refl
begins_alike s c (inr is) other = rw (is, no_feed c other) refl

begins_row_alike : (s : State) (text : List ℕ) → IsBetween s → BeginsLine text → rows_after s [] [] text ≡ rows_after st.StartRecord [] [] text
unfolding rows_after
begins_row_alike s [] between begins = absurd begins
begins_row_alike s (c ∷ rest) between begins = rw (begins_alike s c between begins) refl

none_left : (s : State) (fields : Fields) (field : List ℕ) → IsBetween s → HasAtHand place.Between fields field → rows_after s fields field ≡ rows_after s [] []
none_left s fields field between none = rw (none.0, none.1) refl

pub begun : (n row at : ℕ) (text : List ℕ) → HasWalked (record { place = place.Between; above = n }) (take at text) → n + 1 ≡ row → BeginsLine (drop at text)
    → BeginsRowBehind text row at
begun n row at text walked is begins =
    let front : records default_config (take at text) ≡ walked.rows =
    ap (records default_config) (sym (append-nil (take at text))) ∙ walked.goes_on []
    ∙ ap (λ rows. walked.rows ++ rows) (nothing_after walked.state walked.fields walked.field walked.at_place) ∙ append-nil walked.rows in
    let rest : rows_after walked.state walked.fields walked.field (drop at text) ≡ records default_config (drop at text) =
    ap (λ f. f (drop at text)) (none_left walked.state walked.fields walked.field walked.at_place walked.at_hand)
    ∙ begins_row_alike walked.state (drop at text) walked.at_place begins ∙ sym (records_are (drop at text)) in
    record {
      above = ap (λ rows. length rows + 1) front ∙ ap (λ k. k + 1) walked.count ∙ is;
      whole = ap (records default_config) (sym (take-append-drop at text)) ∙ walked.goes_on (drop at text)
          ∙ ap (λ rows. walked.rows ++ rows) rest ∙ ap (λ rows. rows ++ records default_config (drop at text)) (sym front);
      begins = begins;
    }

-- a byte that ends a line begins no row
at_line_end : (c : ℕ) → is_line_end c ≡ true → (step default_config st.StartRecord c).0 ≡ st.StartRecord
at_line_end c end = rw end refl

begins_line : (to : Place) (c : ℕ) → StepsMachine place.Between to c → begins_row place.Between to ≡ true → (b : Bool) → is_line_end c ≡ b → b ≡ false
begins_line to c steps begins false is = refl
begins_line place.Between c steps begins true is = cc
begins_line place.StartField c steps begins true is = let no : st.StartRecord ≡ st.StartField = sym (at_line_end c is) ∙ (steps st.StartRecord (inl refl)).0 in cc
begins_line place.InField c steps begins true is = let no : st.StartRecord ≡ st.InField = sym (at_line_end c is) ∙ (steps st.StartRecord (inl refl)).0 in cc
begins_line place.InQuoted c steps begins true is = let no : st.StartRecord ≡ st.InQuoted = sym (at_line_end c is) ∙ (steps st.StartRecord (inl refl)).0 in cc
begins_line place.AfterQuote c steps begins true is = let no : st.StartRecord ≡ st.AfterQuote = sym (at_line_end c is) ∙ (steps st.StartRecord (inl refl)).0 in cc

at_line : (at : ℕ) (text : List ℕ) → at < length text → is_line_end (get_or text at 0) ≡ false → BeginsLine (drop at text)
at_line at text within no_end = rw (drop-cons text at 0 within) no_end

pub begins_from : (from to : Place) (n row at : ℕ) (text : List ℕ) → HasWalked (record { place = from; above = n }) (take at text) → n + 1 ≡ row → at < length text
    → StepsMachine from to (get_or text at 0) → begins_row from to ≡ true → BeginsRowBehind text row at
begins_from place.Between to n row at text walked is within steps begins =
    begun n row at text walked is (at_line at text within (begins_line to (get_or text at 0) steps begins (is_line_end (get_or text at 0)) refl))
begins_from place.StartField to n row at text walked is within steps begins = cc
begins_from place.InField to n row at text walked is within steps begins = cc
begins_from place.InQuoted to n row at text walked is within steps begins = cc
begins_from place.AfterQuote to n row at text walked is within steps begins = cc

-- ---- rows that were met

last_rows : (s : State) (fields : Fields) (field : List ℕ) (b : Bool) → ends_at_end s ≡ b → length (rows_after s fields field []) ≤ 1
unfolding rows_after
last_rows s fields field true is = rw is (omega arith)
last_rows s fields field false is = rw is (omega arith)

-- a row in which the walk is counts
ended_at : (at : Place) (n : ℕ) (text : List ℕ) (walked : HasWalked (record { place = at; above = n }) text) → length (rows_after walked.state walked.fields walked.field []) + n ≤ met_at at n
ended_at place.Between n text walked = rw (nothing_after walked.state walked.fields walked.field walked.at_place) (omega arith)
ended_at place.StartField n text walked = omega (arith, last_rows walked.state walked.fields walked.field _ refl)
ended_at place.InField n text walked = omega (arith, last_rows walked.state walked.fields walked.field _ refl)
ended_at place.InQuoted n text walked = omega (arith, last_rows walked.state walked.fields walked.field _ refl)
ended_at place.AfterQuote n text walked = omega (arith, last_rows walked.state walked.fields walked.field _ refl)

pub fewer : (at : Place) (n row : ℕ) (text : List ℕ) → HasWalked (record { place = at; above = n }) text → (1 ≤ row → met_at at n < row) → HasFewerBehind text row
fewer at n row text walked unmet = λ some.
    let rows : records default_config text ≡ walked.rows ++ rows_after walked.state walked.fields walked.field [] =
    ap (records default_config) (sym (append-nil text)) ∙ walked.goes_on [] in
    let size : length (records default_config text) ≡ length walked.rows + length (rows_after walked.state walked.fields walked.field []) =
    ap length rows ∙ length-append walked.rows (rows_after walked.state walked.fields walked.field []) in
    omega (arith, size, walked.count, ended_at at n text walked, unmet some)

-- the start of a walk
pub at_start : HasWalked (record { place = place.Between; above = 0 }) []
at_start = record {
  state = st.StartRecord;
  fields = [];
  field = [];
  rows = [];
  at_place = inl refl;
  at_hand = (refl, refl);
  count = refl;
  goes_on = records_are;
}
