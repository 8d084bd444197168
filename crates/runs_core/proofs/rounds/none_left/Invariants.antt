use Rattle.std.proofs.Common.{◌≡◌, [], take}
use Rattle.std.specs.Prelude.{All}
use Rattle.runs_core.proofs.rounds.none_left.Given as goal

abbrev pub invariant-loop-queue : goal.invariant-loop-queue
invariant-loop-queue l = All (λ queue. queue.items ≡ []) (take l.queue-index l.queues)
