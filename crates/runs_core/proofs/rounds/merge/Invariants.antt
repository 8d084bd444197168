use Rattle.std.proofs.Common.{length, map, take}
use Rattle.runs_core.proofs.HearingLemmas.{AreTaken}
use Rattle.runs_core.proofs.rounds.merge.Given as goal

abbrev pub invariant-loop-place : goal.invariant-loop-place
invariant-loop-place l =
    AreTaken (length l.fn.queues.items) l.first (take l.place l.added) l.answers.items (map (λ queue. queue.items) l.fn.queues.items) (map (λ queue. queue.items) l.queues.items)
