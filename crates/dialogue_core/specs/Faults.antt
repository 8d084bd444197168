-- The numbers of a dialogue's faults.
use Rattle.std.specs.Prelude.{ℕ}
use Rattle.dialogue_core.specs.declared.fault.DialogueFault.{DialogueFault}
use Rattle.dialogue_core.specs.declared.fault.DialogueFault.TheVariants.{Unexpected, NoAskPending, AskPending}

-- the number of a fault
abbrev pub dialogue_fault_code : DialogueFault → ℕ
dialogue_fault_code Unexpected = 1
dialogue_fault_code NoAskPending = 2
dialogue_fault_code AskPending = 3
