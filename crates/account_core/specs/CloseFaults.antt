-- The numbers of the faults of closing.
use Rattle.std.specs.Prelude.{ℕ}
use Rattle.account_core.specs.declared.close_fault.CloseFault.{CloseFault}
use Rattle.account_core.specs.declared.close_fault.CloseFault.TheVariants.{Seats, Mismatch}

-- the number of a fault
abbrev pub close_fault_code : CloseFault → ℕ
close_fault_code Seats = 1
close_fault_code Mismatch = 2
