-- A table goes down its rows, and a loop over it makes of them what its form says.
use Rattle.std.proofs.Common.{◌≡◌, ℕ, ◌+◌, ◌<◌, ◌≤◌, Bool, true, false, List, [], ◌∷◌, length, Option, Some, None, Result, Ok, Err, refl, ap, ◌∙◌, arith}
use Rattle.std.specs.Result.{result_err}
use Rattle.std.specs.Prelude.{IfSome, IsErrAnd, ⊤, ok_or}
use Rattle.std.proofs.lemmas.Bool.Decides.{nat_tests}
use Rattle.std.proofs.lemmas.Option.{IfSome_then}
use Rattle.csv.specs.Records.{fields_of}
use Rattle.table_core.specs.Faults.{RefusesTable}
use Rattle.table_core.specs.Reading.{HasRows, IsAtFirst, IsNextRow, Opens, StepsRow, StepsBy, first_header}
use Rattle.table_core.specs.Rows.{Fields, HasRowsLeft, rows_of}
use Rattle.table_core.specs.Tables.{TableForm, below, own_fault, rows_from, table_of, then_rows, unless_own, which_header}
use Rattle.table_core.specs.declared.fault.RowFault.{RowFault}
use Rattle.table_core.specs.declared.fault.RowKind.{RowKind}
use Rattle.table_core.specs.declared.fault.RowKind.TheVariants as kind
use Rattle.table_core.specs.declared.fault.TableFault.{TableFault}
use Rattle.table_core.specs.declared.fault.TableFault.TheVariants as fault
use Rattle.table_core.specs.declared.table.Table.{Table}

-- ---- the fault that a row has in any table

pub wrong_width : (most_rows width number : ℕ) (fields : Fields) → (length fields ≡ width → ⊥) → own_fault most_rows width number fields ≡ Some kind.Csv
wrong_width most_rows width number fields other = grind (arith, nat_tests)

pub too_many : (most_rows width number : ℕ) (fields : Fields) → length fields ≡ width → most_rows + 1 < number → own_fault most_rows width number fields ≡ Some kind.TooManyRows
too_many most_rows width number fields same late = grind (arith, nat_tests)

pub no_fault : (most_rows width number : ℕ) (fields : Fields) → length fields ≡ width → number ≤ most_rows + 1 → own_fault most_rows width number fields ≡ None
no_fault most_rows width number fields same early = grind (arith, nat_tests)

-- ---- a step, and the header

module _ {R : Type 0} (remaining : R → Option (List ℕ)) where
  -- the fault of a step is put down
  pub noted : (before taken : Table R) (left : List Fields) (found : Result Bool TableFault) (met : Option TableFault) → met ≡ result_err found
      → StepsBy remaining before taken left found → StepsBy remaining before (record taken { fault = met }) left found
  noted before taken left (Ok true) met is (rest, left_are, has) = (rest, left_are, (is, has.1))
  noted before taken left (Ok false) met is none = none
  noted before taken left (Err (fault.Row refused)) met is has = has
  noted before taken left (Err fault.Device) met is has = tt
  noted before taken left (Err fault.OutOfMemory) met is has = tt

  -- a table that is opened
  pub opens_at : (headers : List Fields) (table : Table R) (rows left : List Fields) (first : Fields) → rows ≡ first ∷ left → which_header headers first ≡ Some table.header
      → table.width ≡ length first → table.fault ≡ None → HasRowsLeft remaining table.rows left → Opens remaining headers (Ok table) rows
  opens_at headers table rows left first rows_are which width fresh has = (first, left, rows_are, which, width, (fresh, has))

  -- one whose first row is no header
  pub opens_none : (headers : List Fields) (answer : Result (Table R) TableFault) (why : TableFault) (rows left : List Fields) (first : Fields) (which : Option ℕ)
      → IsErrAnd answer (λ met. met ≡ why) → rows ≡ first ∷ left → which_header headers first ≡ which → ok_or which (fault.Row (record { row = 1; kind = kind.Header })) ≡ Err why
      → Opens remaining headers answer rows
  opens_none headers (Ok table) why rows left first which met rows_are is opens = absurd met
  opens_none headers (Err other) why rows left first None met rows_are is opens =
      let same : fault.Row (record { row = 1; kind = kind.Header }) ≡ why = cc in rw (met, ← same, rows_are) (refl, is)
  opens_none headers (Err other) why rows left first (Some header) met rows_are is opens = cc

-- ---- what a loop over a table has read

-- an answer that is the table's fault
abbrev pub Stops : {S K F : Type 0} → TableForm S K F → TableFault → Result S F → Type 0
Stops form (fault.Row refused) meaning = meaning ≡ Err (form.fault_at refused.row (form.kind_of refused.kind))
Stops form fault.Device meaning = ⊤
Stops form fault.OutOfMemory meaning = ⊤

-- where a form names faults as they are, they are the table's
pub refuses : {S Y : Type 0} (form : TableForm S RowKind RowFault) → ((row : ℕ) (why : RowKind) → form.fault_at row (form.kind_of why) ≡ record { row = row; kind = why })
    → (next : Result S RowFault → Result Y RowFault) → ((why : RowFault) → next (Err why) ≡ Err why)
    → (why : TableFault) (meaning : Result S RowFault) → Stops form why meaning → RefusesTable why (next meaning)
refuses form plain next passes (fault.Row refused) meaning is = rw (is, plain refused.row refused.kind) (passes refused)
refuses form plain next passes fault.Device meaning is = tt
refuses form plain next passes fault.OutOfMemory meaning is = tt

module _ {R S K F : Type 0} (form : TableForm S K F) (remaining : R → Option (List ℕ)) where
  -- what was read so far and what is read from the rows that are left are what is read from the table
  pub record IsSoFar (table : Table R) (read : S) (text : List ℕ) : Type 0 where
    pub left : List Fields
    pub has : HasRows remaining table left
    pub is : table_of form (rows_of text) ≡ rows_from form table.header table.width (table.number + 1) read left

  pub record IsRead (known : Option (List ℕ)) (table : Table R) (read : S) : Type 0 where
    pub most_rows : table.most_rows ≡ form.most_rows
    pub so_far : IfSome known (IsSoFar table read)

  module _ (known : Option (List ℕ)) where
    pub opened : (table : Table R) → IsAtFirst form.headers form.most_rows table → IfSome known (λ text. Opens remaining form.headers (Ok table) (rows_of text))
        → IsRead known table form.start
    unfolding table_of
    opened table first opens = record {
      most_rows = first.most_rows;
      so_far = IfSome_then known opens (λ text (header, left, rows_are, which, width, has). record {
        left = left;
        has = has;
        is = rw (rows_are, which, width, first.number) refl;
      });
    }

    no_header : (rows : List Fields) → first_header form.headers rows ≡ None → table_of form rows ≡ Err (form.fault_at 1 (form.kind_of kind.Header))
    unfolding table_of
    no_header [] none = refl
    no_header (first ∷ rows) none = rw none refl

    not_opened_by : (why : TableFault) (rows : List Fields) → Opens remaining form.headers (Err why) rows → Stops form why (table_of form rows)
    not_opened_by (fault.Row refused) rows (is, none) = rw is (no_header rows none)
    not_opened_by fault.Device rows opens = tt
    not_opened_by fault.OutOfMemory rows opens = tt

    pub not_opened : (why : TableFault) → IfSome known (λ text. Opens remaining form.headers (Err why) (rows_of text)) → IfSome known (λ text. Stops form why (table_of form (rows_of text)))
    not_opened why opens = IfSome_then known opens (λ text. not_opened_by why (rows_of text))

    module _ (before after : Table R) (read : S) (was : IsRead known before read) where
      by_rows : {left rows : List Fields} → left ≡ rows
          → rows_from form before.header before.width (before.number + 1) read left ≡ rows_from form before.header before.width (before.number + 1) read rows
      by_rows same = ap (rows_from form before.header before.width (before.number + 1) read) same

      -- the meaning of the rows that are left, by the first of them
      row_judged : (fields : Fields) (rest : List Fields) (judged : Result S K) → IsNextRow before after → fields ≡ fields_of after.rows.row → form.judge before.header read fields ≡ judged
          → rows_from form before.header before.width (before.number + 1) read (fields ∷ rest)
          ≡ then_rows form after.number judged (λ next. rows_from form after.header after.width (after.number + 1) next rest)
      unfolding rows_from
      row_judged fields rest judged next row is =
          rw (
            next.number,
            next.same.header,
            next.same.width,
            is,
            no_fault form.most_rows before.width (before.number + 1) fields (rw (row, next.width) next.same.width) (omega (arith, next.within, next.number, next.same.most_rows, was.most_rows)),
          ) refl

      pub taken : (now : S) → IsNextRow before after → StepsRow remaining before after (Ok true) → form.judge before.header read (fields_of after.rows.row) ≡ Ok now → IsRead known after now
      taken now next steps is = record {
        most_rows = next.same.most_rows ∙ was.most_rows;
        so_far = IfSome_then known was.so_far (λ text so_far.
            let (rest, left_are, has) = steps so_far.left so_far.has in
            record { left = rest; has = has; is = so_far.is ∙ by_rows left_are ∙ row_judged _ rest (Ok now) next refl is });
      }

      pub refused : (why : K) → IsNextRow before after → StepsRow remaining before after (Ok true) → form.judge before.header read (fields_of after.rows.row) ≡ Err why
          → IfSome known (λ text. table_of form (rows_of text) ≡ Err (form.fault_at after.number why))
      refused why next steps is = IfSome_then known was.so_far (λ text so_far.
          let (rest, left_are, has) = steps so_far.left so_far.has in
          so_far.is ∙ by_rows left_are ∙ row_judged _ rest (Err why) next refl is)

      pub ended : StepsRow remaining before after (Ok false) → IfSome known (λ text. table_of form (rows_of text) ≡ Ok read)
      unfolding rows_from
      ended steps = IfSome_then known was.so_far (λ text so_far. so_far.is ∙ by_rows (steps so_far.left so_far.has))

      own : (why : RowKind) (fields : Fields) (rest : List Fields) → own_fault before.most_rows before.width (before.number + 1) fields ≡ Some why
          → rows_from form before.header before.width (before.number + 1) read (fields ∷ rest) ≡ Err (form.fault_at (before.number + 1) (form.kind_of why))
      unfolding rows_from
      own why fields rest has = rw (rw was.most_rows at has) refl

      stopped_by : (why : TableFault) (text : List ℕ) (so_far : IsSoFar before read text) → StepsBy remaining before after so_far.left (Err why) → Stops form why (table_of form (rows_of text))
      stopped_by (fault.Row refused) text so_far is = so_far.is ∙ by_rows is.left_are ∙ rw is.row_is (own refused.kind is.fields is.rest is.has)
      stopped_by fault.Device text so_far is = tt
      stopped_by fault.OutOfMemory text so_far is = tt

      pub stopped : (why : TableFault) → StepsRow remaining before after (Err why) → IfSome known (λ text. Stops form why (table_of form (rows_of text)))
      stopped why steps = IfSome_then known was.so_far (λ text so_far. stopped_by why text so_far (steps so_far.left so_far.has))

-- ---- what each row keeps, the whole table has

module _ {S K F : Type 0} (form : TableForm S K F) (P : S → Type 0)
    (step : (header : ℕ) (read next : S) (fields : Fields) → form.judge header read fields ≡ Ok next → P read → P next) where
  rows_keep_by : (number : ℕ) (own : Option RowKind) (header : ℕ) (read all : S) (fields : Fields) (judged : Result S K) (rest : S → Result S F) → form.judge header read fields ≡ judged → P read
      → ((next : S) → P next → rest next ≡ Ok all → P all) → then_rows form number (unless_own form own judged) rest ≡ Ok all → P all
  rows_keep_by number None header read all fields (Ok next) rest is holds later whole = later next (step header read next fields is holds) whole
  rows_keep_by number None header read all fields (Err why) rest is holds later whole = cc
  rows_keep_by number (Some why) header read all fields judged rest is holds later whole = cc

  rows_keep : (header width number : ℕ) (read all : S) (rows : List Fields) → P read → rows_from form header width number read rows ≡ Ok all → P all
  unfolding rows_from
  rows_keep header width number read all [] holds is = let same : read ≡ all = cc in rw (← same) holds
  rows_keep header width number read all (fields ∷ rows) holds is =
      rows_keep_by number (own_fault form.most_rows width number fields) header read all fields (form.judge header read fields) (λ next. rows_from form header width (number + 1) next rows) refl holds
      (λ next held. rows_keep header width (number + 1) next all rows held) is

  below_keep : (first : Fields) (rows : List Fields) (all : S) (which : Option ℕ) → P form.start → below form first rows which ≡ Ok all → P all
  below_keep first rows all None holds is = cc
  below_keep first rows all (Some header) holds is = rows_keep header (length first) 2 form.start all rows holds is

  pub table_keeps : (rows : List Fields) (all : S) → P form.start → table_of form rows ≡ Ok all → P all
  unfolding table_of
  table_keeps [] all holds is = cc
  table_keeps (first ∷ rows) all holds is = below_keep first rows all (which_header form.headers first) holds is
