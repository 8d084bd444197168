-- What is made of the rows of a table, one after another.
use Rattle.std.specs.Prelude.{◌≡◌, Result, Ok, Err, ⊤}
use Rattle.table_core.specs.Faults.{RefusesTable}
use Rattle.table_core.specs.declared.fault.RowFault.{RowFault}
use Rattle.table_core.specs.declared.fault.RowKind.{RowKind}
use Rattle.table_core.specs.declared.fault.TableFault.{TableFault}
use Rattle.table_core.specs.declared.taking.TakeFault.{TakeFault}
use Rattle.table_core.specs.declared.taking.TakeFault.TheVariants as fault

-- a row was taken, and what it makes of those before it is what was made of them now. It was refused: it has that fault
abbrev pub TakesNextRow : {S X : Type 0} → (S → Type 0) → Result X TakeFault → Result S RowKind → Type 0
TakesNextRow Has (Ok done) judged = (made : _) × (judged ≡ Ok made) × Has made
TakesNextRow Has (Err (fault.Row kind)) judged = judged ≡ Err kind
TakesNextRow Has (Err fault.OutOfMemory) judged = ⊤

-- the rows of a table were taken, and its meaning is what was made of them. They weren't: the table has that fault
abbrev pub TakesTable : {S X : Type 0} → (S → Type 0) → Result X TableFault → Result S RowFault → Type 0
TakesTable Has (Ok done) meaning = (made : _) × (meaning ≡ Ok made) × Has made
TakesTable Has (Err why) meaning = RefusesTable why meaning
