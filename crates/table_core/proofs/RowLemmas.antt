-- A reader of rows goes down the rows of its text.
use Rattle.std.proofs.Common.{◌≡◌, ℕ, zero, suc, ◌+◌, ◌<◌, Bool, true, false, List, [], ◌∷◌, ◌++◌, length, Option, Some, None, refl, sym, ◌∙◌, arith}
use Rattle.std.specs.Prelude.{if◌then◌else◌, ◌==◌, ◌&&◌, IfSome, ⊤, option_map}
use Rattle.csv.specs.Machine.{Read, after_end, ends_at_end, ends_with, field_after, fields_after, in_field, is_byte, is_end, next_record, start_field, start_record, step}
use Rattle.csv.specs.Reading.{NextIs, ReadRecord, ReadsNext, Ready, default_config, records_from, source_of, strip_bom}
use Rattle.csv.specs.Records.{fields_of}
use Rattle.csv.specs.declared.parser.Action.{Action}
use Rattle.csv.specs.declared.parser.Action.TheVariants as act
use Rattle.csv.specs.declared.parser.Config.{Config}
use Rattle.csv.specs.declared.parser.State.{State}
use Rattle.csv.specs.declared.parser.State.TheVariants as st
use Rattle.csv.specs.declared.parser.Terminator.{Terminator}
use Rattle.csv.specs.declared.parser.Terminator.TheVariants as term
use Rattle.csv.specs.declared.reader.Trim.TheVariants as trim
use Rattle.table_core.specs.Rows.{Fields, HasRowsLeft, TakesNext, rows_of}
use Rattle.table_core.specs.declared.table.Rows.{Rows}

-- ---- between two records the machine is in a state in which the text may end

-- a byte that ends a record leaves such a state
abbrev EndsBetween : State × Action → Type 0
EndsBetween next = is_end next.1 ≡ true → ends_at_end next.0 ≡ false

choose : (b : Bool) (x y : State × Action) → EndsBetween x → EndsBetween y → EndsBetween (if b then x else y)
choose true x y p q = p
choose false x y p q = q

choose_state : (b : Bool) (x y : State) → ends_at_end x ≡ false → ends_at_end y ≡ false → ends_at_end (if b then x else y) ≡ false
choose_state true x y p q = p
choose_state false x y p q = q

after_end-between : (t : Terminator) (c : ℕ) → ends_at_end (after_end t c) ≡ false
after_end-between term.CRLF c = choose_state (c == 13) st.AfterCr st.StartRecord refl refl
after_end-between (term.Any t) c = refl

in_field-between : (cfg : Config) (c : ℕ) → EndsBetween (in_field cfg c)
in_field-between cfg c =
    choose (c == cfg.delimiter) (st.StartField, act.EndField) _ (λ e. cc)
    (choose (ends_with cfg.terminator c) (after_end cfg.terminator c, act.EndRecord) (st.InField, act.Copy)
    (λ _. after_end-between cfg.terminator c) (λ e. cc))

start_field-between : (cfg : Config) (c : ℕ) → EndsBetween (start_field cfg c)
start_field-between cfg c =
    choose (cfg.quoting && (c == cfg.quote)) (st.InQuoted, act.Skip) (in_field cfg c) (λ e. cc) (in_field-between cfg c)

start_record-between : (cfg : Config) (c : ℕ) → EndsBetween (start_record cfg c)
start_record-between cfg c =
    choose (ends_with cfg.terminator c) (st.StartRecord, act.Skip) _ (λ e. cc)
    (choose (is_byte cfg.comment c) (st.InComment, act.Skip) (start_field cfg c) (λ e. cc) (start_field-between cfg c))

step-between : (cfg : Config) (s : State) (c : ℕ) → EndsBetween (step cfg s c)
step-between cfg st.StartRecord c = start_record-between cfg c
step-between cfg st.StartField c = start_field-between cfg c
step-between cfg st.InField c = in_field-between cfg c
step-between cfg st.InQuoted c =
    choose (cfg.quoting && (c == cfg.quote)) (st.AfterQuote, act.Skip) _ (λ e. cc)
    (choose (cfg.quoting && is_byte cfg.escape c) (st.InEscape, act.Skip) (st.InQuoted, act.Copy) (λ e. cc) (λ e. cc))
step-between cfg st.InEscape c = λ e. cc
step-between cfg st.AfterQuote c =
    choose (cfg.quoting && cfg.double_quote && (c == cfg.quote)) (st.InQuoted, act.Copy) (in_field cfg c) (λ e. cc) (in_field-between cfg c)
step-between cfg st.InComment c = choose (c == 10) (st.StartRecord, act.Skip) (st.InComment, act.Skip) (λ e. cc) (λ e. cc)
step-between cfg st.AfterCr c =
    choose (c == 10) (st.StartRecord, act.Skip) (start_record cfg c) (λ e. cc) (start_record-between cfg c)

-- ---- a record leaves a shorter text

-- a record that was read leaves fewer than n bytes, and the machine between two records
abbrev Leaves : ℕ → Option Read → Type 0
Leaves n None = ⊤
Leaves n (Some read) = (ends_at_end read.1 ≡ false) × (length read.2 < n)

leaves_by : (n : ℕ) (b : Bool) (x y : Option Read) → (b ≡ true → Leaves n x) → (b ≡ false → Leaves n y) → Leaves n (if b then x else y)
leaves_by n true x y p q = p refl
leaves_by n false x y p q = q refl

leaves_more : (n m : ℕ) (read : Option Read) → n < m + 1 → Leaves n read → Leaves m read
leaves_more n m None le h = tt
leaves_more n m (Some read) le h = (h.0, omega (arith, h.1))

next_record-leaves : (cfg : Config) (s : State) (fields : Fields) (field xs : List ℕ) → Leaves (length xs + 1) (next_record cfg s fields field xs)
unfolding next_record
next_record-leaves cfg s fields field [] =
    leaves_by 1 (ends_at_end s) (Some (fields ++ (field ∷ []), st.StartRecord, [])) None (λ _. (refl, omega arith)) (λ _. tt)
next_record-leaves cfg s fields field (c ∷ rest) =
    leaves_by _ (is_end (step cfg s c).1) (Some (fields_after (step cfg s c).1 fields field, (step cfg s c).0, rest)) _
    (λ e. (step-between cfg s c e, omega arith))
    (λ _. leaves_more _ _ _ (omega arith) (next_record-leaves cfg (step cfg s c).0 (fields_after (step cfg s c).1 fields field) (field_after (step cfg s c).1 c field) rest))

next_record-shorter : (cfg : Config) (s : State) (xs : List ℕ) → ends_at_end s ≡ false → Leaves (length xs) (next_record cfg s [] [] xs)
unfolding next_record
next_record-shorter cfg s [] between =
    leaves_by 0 (ends_at_end s) (Some ([] ∷ [], st.StartRecord, [])) None (λ e. let no : true ≡ false = sym e ∙ between in cc) (λ _. tt)
next_record-shorter cfg s (c ∷ rest) between =
    leaves_by _ (is_end (step cfg s c).1) (Some (fields_after (step cfg s c).1 [] [], (step cfg s c).0, rest)) _
    (λ e. (step-between cfg s c e, omega arith))
    (λ _. leaves_more _ _ _ (omega arith) (next_record-leaves cfg (step cfg s c).0 (fields_after (step cfg s c).1 [] []) (field_after (step cfg s c).1 c []) rest))

-- ---- one row more

-- the rows of a text begin with the next record of it, and go on after that
more_rows : (fuel : ℕ) (s : State) (text : List ℕ) (read : Read) → length text < fuel → ends_at_end s ≡ false
    → next_record default_config s [] [] text ≡ Some read
    → (less : ℕ) × (records_from default_config fuel s text ≡ read.0 ∷ records_from default_config less read.1 read.2)
    × (length read.2 < less) × (ends_at_end read.1 ≡ false)
unfolding records_from
more_rows zero s text read enough between found = absurd (omega arith)
more_rows (suc less) s text read enough between found =
    let leaves = rw found at (next_record-shorter default_config s text between) in
    (less, rw found refl, omega (arith, leaves.1), leaves.0)

no_rows : (fuel : ℕ) (s : State) (text : List ℕ) → next_record default_config s [] [] text ≡ None → records_from default_config fuel s text ≡ []
unfolding records_from
no_rows zero s text none = refl
no_rows (suc less) s text none = rw none refl

found_is : (read : Option Read) (fields : Fields) (s : State) (rest : List ℕ) → NextIs read true fields s rest → read ≡ Some (fields, s, rest)
found_is None fields s rest h = cc
found_is (Some read) fields s rest h = rw (h.1, h.2, h.3) refl

none_is : (read : Option Read) (fields : Fields) (s : State) (rest : List ℕ) → NextIs read false fields s rest → read ≡ None
none_is None fields s rest h = refl
none_is (Some read) fields s rest h = let no : false ≡ true = h.0 in cc

reads_found : (cfg : Config) (s after : State) (text : List ℕ) (known : Option (List ℕ)) (fields : Fields)
    → ReadsNext cfg s (Some text) known true fields after
    → (rest : List ℕ) × (known ≡ Some rest) × (next_record cfg s [] [] text ≡ Some (fields, after, rest))
reads_found cfg s after text None fields h = absurd h
reads_found cfg s after text (Some rest) fields h = (rest, refl, found_is _ fields after rest h)

reads_none : (cfg : Config) (s after : State) (text : List ℕ) (known : Option (List ℕ)) (fields : Fields)
    → ReadsNext cfg s (Some text) known false fields after → next_record cfg s [] [] text ≡ None
reads_none cfg s after text None fields h = absurd h
reads_none cfg s after text (Some rest) fields h = none_is _ fields after rest h

module _ {R : Type 0} (remaining : R → Option (List ℕ)) where
  -- what a read of a record does to the rows that are left
  pub takes_row : (before after : Rows R) (found : Bool) (left : List Fields)
      → HasRowsLeft remaining before left → ReadRecord remaining before.reader after.reader found (fields_of after.row)
      → Ready after.reader → TakesNext remaining after left found
  takes_row before after true left has read ready =
      let next = reads_found _ _ _ _ _ _ (rw (has.source, has.plain) at read.0) in
      let more = more_rows has.fuel before.reader.state has.text _ has.enough has.between next.2 in (
        records_from default_config more.0 after.reader.state next.0,
        has.left_are ∙ more.1,
        record {
          untrimmed = read.3 ∙ has.untrimmed;
          ready = ready;
          plain = read.2 ∙ has.plain;
          text = next.0;
          source = rw read.1 next.1;
          between = more.3;
          fuel = more.0;
          enough = more.2;
          left_are = refl;
        },
      )
  takes_row before after false left has read ready =
      has.left_are ∙ no_rows has.fuel before.reader.state has.text (reads_none _ _ _ _ _ _ (rw (has.source, has.plain) at read.0))

  -- a new reader has all the rows left
  pub has_all : (rows : Rows R) (known : Option (List ℕ)) → rows.reader.trim ≡ trim.None → Ready rows.reader
      → rows.reader.config ≡ default_config → source_of remaining rows.reader ≡ option_map strip_bom known
      → rows.reader.state ≡ st.StartRecord → IfSome known (λ text. HasRowsLeft remaining rows (rows_of text))
  unfolding rows_of
  has_all rows None untrimmed ready plain source start = tt
  has_all rows (Some text) untrimmed ready plain source start = record {
    untrimmed = untrimmed;
    ready = ready;
    plain = plain;
    text = strip_bom text;
    source = source;
    between = rw start refl;
    fuel = length (strip_bom text) + 1;
    enough = omega arith;
    left_are = rw start refl;
  }
