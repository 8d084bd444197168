use Rattle.std.proofs.Common.{take}
use Rattle.run_outputs.specs.KeptRecords.{HaveStarts}
use Rattle.run_outputs.proofs.starts.starts_in.Given as goal

-- the starts of the posts so far
abbrev pub invariant-loop-at : goal.invariant-loop-at
invariant-loop-at l = HaveStarts l.starts (take l.at-index l.given)
