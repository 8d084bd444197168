-- The faults of `rate`.
use Rattle.std.specs.Prelude.{Result, Ok, Err}
use Rattle.run_texts.specs.declared.input_fault.InputFault.{InputFault}
use Rattle.run_texts.specs.declared.input_fault.InputFault.TheVariants as input
use Rattle.rating.specs.declared.fault.RateFault.{RateFault}
use Rattle.rating.specs.declared.fault.RateFault.TheVariants as fault
use Rattle.table_core.specs.declared.fault.TableFault.{TableFault}
use Rattle.table_core.specs.declared.fault.TableFault.TheVariants as table

-- the fault of rows that can't be read
abbrev pub of_rows : TableFault → RateFault
of_rows table.OutOfMemory = fault.Input input.OutOfMemory
of_rows _ = fault.Input input.Device

-- what an input says, its fault as one of `rate`
abbrev pub as_rate_fault : {X : Type 0} → Result X InputFault → Result X RateFault
as_rate_fault (Ok x) = Ok x
as_rate_fault (Err why) = Err (fault.Input why)
