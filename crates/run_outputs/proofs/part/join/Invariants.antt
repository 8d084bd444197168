use Rattle.std.specs.Vec.Iter.{into_iter_items}
use Rattle.run_outputs.proofs.Joins.{AreJoined}
use Rattle.run_outputs.proofs.part.join.Given as goal

-- the parts so far are joined
abbrev pub invariant-loop-part : goal.invariant-loop-part
invariant-loop-part l = AreJoined l.fn.parts.items (into_iter_items l.part-iterator) l.whole
