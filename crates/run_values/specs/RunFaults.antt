-- The names of what can end a run.
use Rattle.std.specs.Prelude.{ℕ, List, codes}
use Rattle.run_values.specs.declared.run_fault.RunFault.{RunFault}
use Rattle.run_values.specs.declared.run_fault.RunFault.TheVariants as fault

-- the name of a fault
abbrev pub run_fault_name : RunFault → List ℕ
run_fault_name fault.OutOfMemory = codes "OutOfMemory"
run_fault_name fault.Workers = codes "Workers"
run_fault_name fault.GateClosed = codes "GateClosed"
run_fault_name fault.Mismatch = codes "Mismatch"
run_fault_name fault.Channel = codes "Channel"
run_fault_name fault.Thread = codes "Thread"
