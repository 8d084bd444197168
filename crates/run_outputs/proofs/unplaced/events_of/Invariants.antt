use Rattle.std.proofs.Common.{◌≡◌, take}
use Rattle.run_outputs.specs.Unplaced.{events_in_rows}
use Rattle.run_outputs.proofs.unplaced.events_of.Given as goal

-- those in the rows so far
abbrev pub invariant-loop-row : goal.invariant-loop-row
invariant-loop-row l = l.events.items ≡ events_in_rows (take l.row-index l.rows)
