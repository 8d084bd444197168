use Rattle.std.proofs.Common.{◌≡◌, map}
use Rattle.std.specs.Vec.Iter.{into_iter_items}
use Rattle.runs_core.specs.Sending.{heard_by, promises_of, sent_by}
use Rattle.runs_core.proofs.Joins.{AreJoined}
use Rattle.runs_core.proofs.crew.send_all.Given as goal

abbrev pub invariant-loop-share : goal.invariant-loop-share
invariant-loop-share g l =
    AreJoined (map sent_by l.fn.links.items) (map (λ share. share.items) (into_iter_items l.fn.shares)) (map (λ share. share.items) (into_iter_items l.share-iterator)) l.at (map sent_by l.links.items)
    × (promises_of l.links.items ≡ promises_of l.fn.links.items)
    × (map heard_by l.links.items ≡ map heard_by l.fn.links.items)
