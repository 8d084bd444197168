use Rattle.std.proofs.Common.{◌≤◌, ◌-◌, length, drop, take}
use Rattle.script_player.specs.Rows.{Adds, FollowsRows}
use Rattle.script_player.proofs.DueRows.{HavePlayed}
use Rattle.script_player.proofs.player.take_rows.Given as goal

abbrev pub invariant-loop-taken : goal.invariant-loop-taken
invariant-loop-taken l =
    (l.taken ≤ length l.rows) × FollowsRows (take l.taken l.rows) l.network.given × Adds l.initial.network l.network
    × HavePlayed l.now l.initial.network l.network (drop l.initial.taken l.rows) (drop l.taken l.rows) l.initial.unplaced.items l.unplaced.items

abbrev pub decreases-loop-taken : goal.decreases-loop-taken
decreases-loop-taken l = length l.rows - l.taken
