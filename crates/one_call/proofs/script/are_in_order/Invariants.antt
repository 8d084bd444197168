use Rattle.std.proofs.Common.{◌≡◌, drop}
use Rattle.one_call.specs.Scripts.{events_are_in_order}
use Rattle.one_call.proofs.script.are_in_order.Given as goal

abbrev pub invariant-loop-moment : goal.invariant-loop-moment
invariant-loop-moment l = events_are_in_order l.fn.start l.script ≡ events_are_in_order l.last (drop l.moment-index l.script)
