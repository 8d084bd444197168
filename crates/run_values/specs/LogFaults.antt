-- The names of what keeps a log from being used.
use Rattle.std.specs.Prelude.{ℕ, List, codes}
use Rattle.run_values.specs.declared.log_fault.LogFault.{LogFault}
use Rattle.run_values.specs.declared.log_fault.LogFault.TheVariants as fault

-- the name of a fault
abbrev pub log_fault_name : LogFault → List ℕ
log_fault_name fault.Other = codes "Other"
log_fault_name fault.Device = codes "Device"
log_fault_name fault.OutOfMemory = codes "OutOfMemory"
