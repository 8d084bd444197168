-- How a step of a run may fail, and how a run ends.
use Rattle.std.specs.Prelude.{◌≡◌, ◌≢◌, Option, Some, None, Result, Ok, Err}
use Rattle.run_values.specs.declared.run_fault.RunFault.{RunFault}
use Rattle.run_values.specs.declared.run_fault.RunFault.TheVariants as fault

-- a step that asks no gate: it fails neither by a gate nor for the number of workers
abbrev pub AsksNoGate : {X : Type 0} → Result X RunFault → Type 0
AsksNoGate result = (result ≢ Err fault.GateClosed) × (result ≢ Err fault.Workers)

-- a step that may ask a gate: it fails by one only where that may answer false, and never for the number of workers
abbrev pub MayAskGate : {X : Type 0} → Type 0 → Result X RunFault → Type 0
MayAskGate may_shut result = (result ≡ Err fault.GateClosed → may_shut) × (result ≢ Err fault.Workers)

-- how a run ends: with the fault of its first worker, else with that of the others, else as its rounds end
abbrev pub ended_by : {X Y : Type 0} → Option RunFault → Result X RunFault → Result Y RunFault → Result Y RunFault
ended_by (Some why) finished ran = Err why
ended_by None (Err why) ran = Err why
ended_by None (Ok done) ran = ran
