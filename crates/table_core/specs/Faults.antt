-- The faults of a table: their texts, and how an answer meets a table's meaning.
use Rattle.std.specs.Prelude.{◌≡◌, ℕ, List, ◌++◌, Result, Ok, Err, ⊤, codes}
use Rattle.std.specs.Fmt.{decimal}
use Rattle.table_core.specs.declared.fault.RowFault.{RowFault}
use Rattle.table_core.specs.declared.fault.RowKind.{RowKind}
use Rattle.table_core.specs.declared.fault.RowKind.TheVariants as kind
use Rattle.table_core.specs.declared.fault.TableFault.{TableFault}
use Rattle.table_core.specs.declared.fault.TableFault.TheVariants as fault

-- the name of a kind
abbrev pub row_kind_name : RowKind → List ℕ
row_kind_name kind.Csv = codes "Csv"
row_kind_name kind.Header = codes "Header"
row_kind_name kind.TooManyRows = codes "TooManyRows"
row_kind_name kind.What = codes "What"
row_kind_name kind.Number = codes "Number"
row_kind_name kind.Empty = codes "Empty"
row_kind_name kind.Order = codes "Order"
row_kind_name kind.Repeated = codes "Repeated"
row_kind_name kind.Unknown = codes "Unknown"

-- `row N: KIND`
abbrev pub row_fault_text : RowFault → List ℕ
row_fault_text fault = codes "row " ++ (decimal fault.row ++ (codes ": " ++ row_kind_name fault.kind))

-- the text of the fault of a table that was not read
abbrev pub table_fault_text : TableFault → List ℕ
table_fault_text (fault.Row refused) = row_fault_text refused
table_fault_text fault.Device = codes "the reader failed"
table_fault_text fault.OutOfMemory = codes "out of memory"

-- why rows can't be read, which is no fault of a row
abbrev pub IsOfReading : TableFault → Type 0
IsOfReading (fault.Row refused) = ⊥
IsOfReading fault.Device = ⊤
IsOfReading fault.OutOfMemory = ⊤

-- a refused row is the one that the table's meaning refuses; a failed reader and out of memory may come at any table
abbrev pub RefusesTable : {Y : Type 0} → TableFault → Result Y RowFault → Type 0
RefusesTable (fault.Row refused) meaning = meaning ≡ Err refused
RefusesTable fault.Device meaning = ⊤
RefusesTable fault.OutOfMemory meaning = ⊤

-- an answer, seen by `view`, is the table's meaning
abbrev pub GivesTable : {X Y : Type 0} → (X → Y) → Result X TableFault → Result Y RowFault → Type 0
GivesTable view (Ok x) meaning = meaning ≡ Ok (view x)
GivesTable view (Err why) meaning = RefusesTable why meaning
