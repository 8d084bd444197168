-- The fault that a run ends with, of those of its workers and its own.
use Rattle.std.proofs.Common.{◌≡◌, Option, Some, None, ap, refl, rules, ◌∙◌}
use Rattle.std.specs.Prelude.{Err, IfSome, Ok, Result}
use Rattle.std.specs.Result.{IsErrAnd}
use Rattle.runs_core.specs.RunFaults.{MayAskGate, ended_by}
use Rattle.run_values.specs.declared.run_fault.RunFault.{RunFault}
use Rattle.run_values.specs.declared.run_fault.RunFault.TheVariants as out

pub gate_of : {X Y : Type 0} (may_shut : Type 0) (failed : Option RunFault) (finished : Result X RunFault) (ran : Result Y RunFault)
    → MayAskGate may_shut finished → MayAskGate may_shut ran → IfSome failed (λ why. ran ≡ Err why) → MayAskGate may_shut (ended_by failed finished ran)
gate_of may_shut (Some why) finished ran others own first = rw first at own
gate_of may_shut None (Err why) ran others own first = (λ shut. others.0 (search rules), λ none. others.1 (search rules))
gate_of may_shut None (Ok done) ran others own first = own

pub ran_well : {X Y : Type 0} (failed : Option RunFault) (finished : Result X RunFault) (ran : Result Y RunFault) (y : Y) → ended_by failed finished ran ≡ Ok y → ran ≡ Ok y
ran_well (Some why) finished ran y is = cc
ran_well None (Err why) ran y is = cc
ran_well None (Ok done) ran y is = is

pub finished_well : {X Y : Type 0} (failed : Option RunFault) (finished : Result X RunFault) (ran : Result Y RunFault) (y : Y) → ended_by failed finished ran ≡ Ok y → (x : X) × (finished ≡ Ok x)
finished_well (Some why) finished ran y is = cc
finished_well None (Err why) ran y is = cc
finished_well None (Ok done) ran y is = (done, refl)

-- a fault that is passed on
pub passed_on : {X Y : Type 0} (may_shut : Type 0) (met : Result X RunFault) (why : RunFault) (given : Result Y RunFault)
    → met ≡ Err why → IsErrAnd given (λ fault. fault ≡ why) → MayAskGate may_shut met → MayAskGate may_shut given
passed_on may_shut met why (Ok done) was passed may = absurd passed
passed_on may_shut met why (Err fault) was passed may = (
  λ closed. let is : why ≡ out.GateClosed = cc in may.0 (was ∙ ap Err is),
  λ workers. let is : why ≡ out.Workers = cc in may.1 (was ∙ ap Err is),
)
