use Rattle.std.proofs.Common.{◌≡◌, ◌≤◌, length, map}
use Rattle.std.specs.Prelude.{OnOk}
use Rattle.std.specs.Vec.{vec_capacity, vec_len}
use Rattle.runs_core.specs.Sending.{heard_by, promises_of, sent_by}
use Rattle.runs_core.proofs.HearingLemmas.{AreHeard}
use Rattle.runs_core.proofs.crew.hear_all.Given as goal

abbrev pub invariant-loop-at : goal.invariant-loop-at
invariant-loop-at g l =
    (length l.links.items ≡ length l.fn.links.items) × (map sent_by l.links.items ≡ map sent_by l.fn.links.items) × (promises_of l.links.items ≡ promises_of l.fn.links.items)
    × OnOk l.heard (AreHeard heard_by (λ queue. queue.items) l.fn.links.items l.at l.links.items l.queues.items)
    × (vec_len l.queues ≤ l.at) × (vec_capacity l.queues ≡ vec_capacity l.fn.queues)
