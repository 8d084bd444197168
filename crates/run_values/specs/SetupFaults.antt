-- The names of what is wrong with a setup.
use Rattle.std.specs.Prelude.{ℕ, List, codes}
use Rattle.run_values.specs.declared.setup_fault.SetupFault.{SetupFault}
use Rattle.run_values.specs.declared.setup_fault.SetupFault.TheVariants as fault

-- the name of a fault
abbrev pub setup_fault_name : SetupFault → List ℕ
setup_fault_name fault.Repeated = codes "Repeated"
setup_fault_name fault.Unknown = codes "Unknown"
setup_fault_name fault.OutOfRange = codes "OutOfRange"
setup_fault_name fault.OutOfMemory = codes "OutOfMemory"
