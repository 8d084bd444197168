-- The faults of an account.
use Rattle.std.specs.Prelude.{ℕ, List, codes}
use Rattle.account_core.specs.declared.fault.AccountFault.{AccountFault}
use Rattle.account_core.specs.declared.fault.AccountFault.TheVariants as fault

-- the name of a fault
abbrev pub account_fault_name : AccountFault → List ℕ
account_fault_name fault.OutOfMemory = codes "OutOfMemory"
account_fault_name fault.HistoryFull = codes "HistoryFull"
account_fault_name fault.NotOpen = codes "NotOpen"
account_fault_name fault.CallUsed = codes "CallUsed"
account_fault_name fault.OutOfRange = codes "OutOfRange"
account_fault_name fault.GateClosed = codes "GateClosed"
