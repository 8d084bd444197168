use Rattle.std.proofs.Common.{◌≡◌, [], arith, ap, rules, sym, subst, ◌∙◌}
use Rattle.std.proofs.lemmas.List.{take_all, nil_from_length}
use Rattle.std.proofs.lemmas.List.Elements.{All-more}
use Rattle.std.specs.Prelude.{All}
use Rattle.runs_core.proofs.rounds.none_left.Goals as goal

pub loop-queue-preserved : goal.loop-queue-preserved
loop-queue-preserved c =
    let queue = c.queue-item.result in
    let empty : queue.items ≡ [] = nil_from_length queue.items (search rules) in
    All-more (λ queue. queue.items ≡ []) c.args.queues.now c.loop-queue.queue-index queue (omega (arith, c.loop-queue-test.true)) c.loop-queue.invariant (ap (λ queue. queue.items) (sym c.queue-item.is) ∙ empty)

pub returns : goal.returns
returns c = λ _.
    subst (λ queues. All (λ queue. queue.items ≡ []) queues) (take_all c.loop-queue.queue-index c.args.queues.now (omega (arith, c.loop-queue-test.false))) c.loop-queue.invariant
