-- What a table is, and what its rows come to: what was read of them, or the first fault.
use Rattle.std.specs.Prelude.{◌+◌, ◌==◌, ℕ, Bool, not, List, [], ◌∷◌, length, map, Option, Some, None, Result, Ok, Err, if◌then◌else◌, nat_lt, slice_index_or}
use Rattle.std.specs.Borrow.{Bor}
use Rattle.std.specs.Cmp.Lexicographic.{pointwise}
use Rattle.std.specs.List.{position}
use Rattle.std.specs.Str.{bytes_eq}
use Rattle.table_core.specs.Rows.{Fields}
use Rattle.table_core.specs.declared.fault.RowFault.{RowFault}
use Rattle.table_core.specs.declared.fault.RowKind.{RowKind}
use Rattle.table_core.specs.declared.fault.RowKind.TheVariants as kind

-- ---- headers

-- the names of a header
abbrev pub names_of : List (Bor (List ℕ)) → Fields
names_of names = map (λ name. name.now) names

-- the headers that a table may have
abbrev pub headers_of : List (Bor (List (Bor (List ℕ)))) → List Fields
headers_of headers = map (λ names. names_of names.now) headers

-- whether a row is a header: these names, in this order
abbrev pub is_header : Fields → Fields → Bool
is_header names fields = pointwise bytes_eq fields names

-- the first of some headers that a row is, from 0
abbrev pub which_header : List Fields → Fields → Option ℕ
which_header headers fields = position (λ names. is_header names fields) headers

-- the number of fields of a header
abbrev pub width_at : List Fields → ℕ → ℕ
width_at headers header = length (slice_index_or headers header [])

-- ---- tables

-- a table: its headers, how many rows it may have besides, and what a row makes of what was read before it
pub record TableForm (S K F : Type 0) : Type 0 where
  pub headers : List Fields
  pub most_rows : ℕ
  -- before the first row
  pub start : S
  -- a row, by the header that the table has, from 0
  pub judge : ℕ → S → Fields → Result S K
  -- how a fault that any table may have is named, and a fault at the row of a number
  pub kind_of : RowKind → K
  pub fault_at : ℕ → K → F

-- a table whose rows have the faults of `RowKind`
abbrev pub table_form : {S : Type 0} → List Fields → ℕ → S → (ℕ → S → Fields → Result S RowKind) → TableForm S RowKind RowFault
table_form headers most_rows start judge = record {
  headers = headers;
  most_rows = most_rows;
  start = start;
  judge = judge;
  kind_of = λ kind. kind;
  fault_at = λ row kind. record { row = row; kind = kind };
}

-- the fault that a row has in any table: another number of fields than the header has, or too many rows besides the header, which is row 1
abbrev pub own_fault : ℕ → ℕ → ℕ → Fields → Option RowKind
own_fault most_rows width number fields =
    if not (length fields == width) then Some kind.Csv else if nat_lt (most_rows + 1) number then Some kind.TooManyRows else None

-- what a row comes to, where it has no such fault
abbrev pub unless_own : {S K F : Type 0} → TableForm S K F → Option RowKind → Result S K → Result S K
unless_own form None judged = judged
unless_own form (Some why) judged = Err (form.kind_of why)

-- what comes after the row of a number; a row that is refused ends the table
abbrev pub then_rows : {S K F : Type 0} → TableForm S K F → ℕ → Result S K → (S → Result S F) → Result S F
then_rows form number (Ok read) next = next read
then_rows form number (Err why) next = Err (form.fault_at number why)

-- the rows from a number on, under a header of so many fields
unfoldable pub rows_from : {S K F : Type 0} → TableForm S K F → ℕ → ℕ → ℕ → S → List Fields → Result S F
rows_from form header width number read [] = Ok read
rows_from form header width number read (fields ∷ rows) =
    then_rows form number (unless_own form (own_fault form.most_rows width number fields) (form.judge header read fields)) (λ next. rows_from form header width (number + 1) next rows)

-- the rows below the first one, where it is a header
abbrev pub below : {S K F : Type 0} → TableForm S K F → Fields → List Fields → Option ℕ → Result S F
below form first rows None = Err (form.fault_at 1 (form.kind_of kind.Header))
below form first rows (Some header) = rows_from form header (length first) 2 form.start rows

-- the rows of a table, its header included
unfoldable pub table_of : {S K F : Type 0} → TableForm S K F → List Fields → Result S F
table_of form [] = Err (form.fault_at 1 (form.kind_of kind.Header))
table_of form (first ∷ rows) = below form first rows (which_header form.headers first)
