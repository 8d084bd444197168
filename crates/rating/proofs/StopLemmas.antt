-- The faults that may come in the middle of a rating.
use Rattle.std.proofs.Common.{◌≡◌, ℕ, List, Option, Result, Ok, Err}
use Rattle.std.specs.Prelude.{IfErr, IsErrAnd}
use Rattle.run_texts.specs.declared.input_fault.InputFault.TheVariants as input
use Rattle.table_core.specs.declared.fault.TableFault.{TableFault}
use Rattle.table_core.specs.declared.fault.TableFault.TheVariants as table
use Rattle.rating.specs.Ends.{IsRatingSilent, MayStop}
use Rattle.rating.specs.Faults.{of_rows}
use Rattle.rating.specs.declared.fault.RateFault.{RateFault}
use Rattle.rating.specs.declared.fault.RateFault.TheVariants as fault
use Rattle.rating.specs.declared.score.Score.{Score}

-- the fault of a row that can't be read may come in the middle of the rows
pub rows_stop : (why : TableFault) → MayStop (of_rows why)
rows_stop (table.Row refused) = tt
rows_stop table.Device = tt
rows_stop table.OutOfMemory = tt

-- an answer that failed by a fault that may come in the middle of the rows
pub may_stop : (answer : Result Score RateFault) (why : RateFault)
    → IsErrAnd answer (λ met. met ≡ why) → MayStop why → IfErr answer MayStop
may_stop (Ok score) why met may = tt
may_stop (Err named) why met may = rw met may

-- whatever was written, a fault that may come in the middle of the rows is silent
may_silent : (old new : Option (List ℕ)) (why : RateFault) → MayStop why
    → IsRatingSilent old new why
may_silent old new (fault.Header found) may = absurd may
may_silent old new fault.Output may = tt
may_silent old new (fault.Input input.Device) may = tt
may_silent old new (fault.Input input.OutOfMemory) may = tt
may_silent old new (fault.Input input.Parts) may = absurd may
may_silent old new (fault.Input input.TooLong) may = absurd may
may_silent old new (fault.Input (input.Tariff row)) may = absurd may
may_silent old new (fault.Input (input.Setup row)) may = absurd may
may_silent old new (fault.Input (input.Script row)) may = absurd may

-- the same of an answer
pub stopped_silent : (old new : Option (List ℕ)) (answer : Result Score RateFault)
    → IfErr answer MayStop → IfErr answer (IsRatingSilent old new)
stopped_silent old new (Ok score) may = tt
stopped_silent old new (Err why) may = may_silent old new why may
