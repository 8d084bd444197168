use Rattle.std.proofs.Common.{false, refl}
use Rattle.script_player.proofs.DueMoments.{Changed, replaces}
use Rattle.script_player.proofs.network.replace_due.Goals as goal
use Rattle.script_player.proofs.network.replace_due.Goals.{in-Some, in_default}

pub returns-in_ok-insert : goal.returns-in_ok-insert
returns-in_ok-insert c =
    let out : Changed false c.args.call c.args.before c.args.dues.now c.match-before.dues =
    elim c.match-before.branch [
      | in-Some w ↦ rw (w.in-Some.is, w.dues-is) w.remove.ensures.updates
      | in_default w ↦ rw (w.in_default.is, w.dues-is) refl
    ] in
    λ _. replaces c.args.call c.args.before c.args.after c.args.dues.now c.match-before.dues c.insert.new.self out (rw c.in-Some-after.is c.in_ok-insert.ensures.updates)

pub returns-in_default-after : goal.returns-in_default-after
returns-in_default-after c =
    let out : Changed false c.args.call c.args.before c.args.dues.now c.match-before.dues =
    elim c.match-before.branch [
      | in-Some w ↦ rw (w.in-Some.is, w.dues-is) w.remove.ensures.updates
      | in_default w ↦ rw (w.in_default.is, w.dues-is) refl
    ] in
    λ _. replaces c.args.call c.args.before c.args.after c.args.dues.now c.match-before.dues c.match-before.dues out (rw c.in_default-after.is refl)
