-- What a fault leaves.
use Rattle.std.specs.Prelude.{ℕ, List, Option, ⊤}
use Rattle.live_answers.specs.declared.checking.ReplayFault.{ReplayFault}
use Rattle.live_answers.specs.declared.checking.ReplayFault.TheVariants as replay
use Rattle.live_answers.specs.declared.fault.Stop.{Stop}
use Rattle.live_answers.specs.declared.fault.Stop.TheVariants as stop
use Rattle.live_answers.specs.declared.stage.LiveFault.{LiveFault}
use Rattle.live_answers.specs.declared.stage.LiveFault.TheVariants as fault
use Rattle.table_core.specs.Fronts.{AppendsFront}

-- of a round that was stopped by a fault
abbrev pub WhereFailed : (LiveFault → Type 0) → Stop → Type 0
WhereFailed P (stop.Failed why) = P why
WhereFailed P stop.OutOfMemory = ⊤

-- the output failed, when a front of the text was written
abbrev pub CutsOutput : Option (List ℕ) → Option (List ℕ) → List ℕ → LiveFault → Type 0
CutsOutput old new text fault.Input = ⊥
CutsOutput old new text fault.Output = AppendsFront old new text
CutsOutput old new text fault.Log = ⊥

-- the log failed, when a front of the text was written
abbrev pub CutsLog : Option (List ℕ) → Option (List ℕ) → List ℕ → LiveFault → Type 0
CutsLog old new text fault.Input = ⊥
CutsLog old new text fault.Output = ⊥
CutsLog old new text fault.Log = AppendsFront old new text

-- what stops the check of a log's lines
abbrev pub replay_fault_of : Stop → ReplayFault
replay_fault_of (stop.Failed why) = replay.Input
replay_fault_of stop.OutOfMemory = replay.OutOfMemory
