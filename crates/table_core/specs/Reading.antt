-- What a clause reads of a reader of rows, and of a table.
use Rattle.std.specs.Prelude.{◌≡◌, ◌<◌, ◌≤◌, ◌+◌, ◌-◌, ℕ, Bool, true, false, List, [], ◌∷◌, length, Option, Some, None, Result, Ok, Err, ⊤}
use Rattle.csv.specs.Records.{Row, fields_of}
use Rattle.table_core.specs.Rows.{Fields, HasRowsLeft}
use Rattle.table_core.specs.Tables.{own_fault, which_header, width_at}
use Rattle.table_core.specs.declared.fault.RowKind.{RowKind}
use Rattle.table_core.specs.declared.fault.RowKind.TheVariants as kind
use Rattle.table_core.specs.declared.fault.TableFault.{TableFault}
use Rattle.table_core.specs.declared.fault.TableFault.TheVariants as fault
use Rattle.table_core.specs.declared.table.Rows.{Rows}
use Rattle.table_core.specs.declared.table.Table.{Table}

-- the row that was taken last
abbrev pub row_of : {R : Type 0} → Rows R → Row
row_of rows = rows.row

-- ---- tables

-- the row that was taken last
abbrev pub row_of_table : {R : Type 0} → Table R → Row
row_of_table table = table.rows.row

-- the number of the row that was read last
abbrev pub row_number_of : {R : Type 0} → Table R → ℕ
row_number_of table = table.number

-- how many fields a row has
abbrev pub row_width : {R : Type 0} → Table R → ℕ
row_width table = table.width

-- which of the headers the table has, from 0
abbrev pub header_of : {R : Type 0} → Table R → ℕ
header_of table = table.header

-- the number of the last row that there may be
abbrev pub most_rows_of : {R : Type 0} → Table R → ℕ
most_rows_of table = table.most_rows

-- the fault that reading has met
abbrev pub stopped_by : {R : Type 0} → Table R → Option TableFault
stopped_by table = table.fault

-- how many rows more a table may have
abbrev pub room_of : {R : Type 0} → Table R → ℕ
room_of table = table.most_rows + 1 - table.number

-- the rows that are left to a table, where the bytes below are known
abbrev pub HasRows : {R : Type 0} → (R → Option (List ℕ)) → Table R → List Fields → Type 0
HasRows remaining table left = (table.fault ≡ None) × HasRowsLeft remaining table.rows left

-- a table is below the header that it has
pub record IsAtFirst {R : Type 0} (headers : List Fields) (most : ℕ) (table : Table R) : Type 0 where
  pub most_rows : table.most_rows ≡ most
  pub number : table.number ≡ 1
  pub header : table.header < length headers
  pub width : table.width ≡ width_at headers table.header

-- the first header that the first row is
abbrev pub first_header : List Fields → List Fields → Option ℕ
first_header headers [] = None
first_header headers (first ∷ rows) = which_header headers first

-- a table has the header that the first of the rows is, and the others are left. A fault of its own is that the first is no header
abbrev pub Opens : {R : Type 0} → (R → Option (List ℕ)) → List Fields → Result (Table R) TableFault → List Fields → Type 0
Opens remaining headers (Ok table) rows =
    (first : Fields) × (left : List Fields) × (rows ≡ first ∷ left) × (which_header headers first ≡ Some table.header) × (table.width ≡ length first)
    × HasRows remaining table left
Opens remaining headers (Err (fault.Row refused)) rows = (refused ≡ record { row = 1; kind = kind.Header }) × (first_header headers rows ≡ None)
Opens remaining headers (Err fault.Device) rows = ⊤
Opens remaining headers (Err fault.OutOfMemory) rows = ⊤

-- the first of the rows that are left has the fault
pub record IsRefusedRow {R : Type 0} (table : Table R) (left : List Fields) (row : ℕ) (why : RowKind) : Type 0 where
  pub fields : Fields
  pub rest : List Fields
  pub left_are : left ≡ fields ∷ rest
  pub row_is : row ≡ table.number + 1
  pub has : own_fault table.most_rows table.width (table.number + 1) fields ≡ Some why

-- a row was found: it was the first of those left. None was found: none was left. It was refused: the first of those left has the fault
abbrev pub StepsBy : {R : Type 0} → (R → Option (List ℕ)) → Table R → Table R → List Fields → Result Bool TableFault → Type 0
StepsBy remaining before after left (Ok true) = (rest : List Fields) × (left ≡ fields_of after.rows.row ∷ rest) × HasRows remaining after rest
StepsBy remaining before after left (Ok false) = left ≡ []
StepsBy remaining before after left (Err (fault.Row refused)) = IsRefusedRow before left refused.row refused.kind
StepsBy remaining before after left (Err fault.Device) = ⊤
StepsBy remaining before after left (Err fault.OutOfMemory) = ⊤

-- the same, whatever rows were left before
abbrev pub StepsRow : {R : Type 0} → (R → Option (List ℕ)) → Table R → Table R → Result Bool TableFault → Type 0
StepsRow remaining before after found = (left : List Fields) → HasRows remaining before left → StepsBy remaining before after left found

-- a table has the same header and as many rows at most
pub record IsSameTable {R : Type 0} (before after : Table R) : Type 0 where
  pub header : after.header ≡ before.header
  pub width : after.width ≡ before.width
  pub most_rows : after.most_rows ≡ before.most_rows

-- the next row is one that the table may have
pub record IsNextRow {R : Type 0} (before after : Table R) : Type 0 where
  pub same : IsSameTable before after
  pub number : after.number ≡ before.number + 1
  pub within : after.number ≤ after.most_rows + 1
  pub width : length (fields_of after.rows.row) ≡ after.width

-- where no row was taken, the number stays
abbrev pub MovesRow : {R : Type 0} → Table R → Table R → Result Bool TableFault → Type 0
MovesRow before after (Ok true) = IsNextRow before after
MovesRow before after (Ok false) = IsSameTable before after × (after.number ≡ before.number)
MovesRow before after (Err why) = IsSameTable before after × (after.number ≡ before.number)
