use Rattle.std.proofs.Common.{◌≤◌, ◌<◌, take}
use Rattle.table_commands.specs.Walks.{HasWalked, met}
use Rattle.table_commands.proofs.explanations.starts.start_behind.Given as goal

-- the bytes so far were walked through, which have no more rows than bytes, and the row wasn't met
abbrev pub invariant-loop-at : goal.invariant-loop-at
invariant-loop-at l = HasWalked l.walk (take l.at l.text) × (l.walk.above ≤ l.at) × (1 ≤ l.row → met l.walk < l.row)
