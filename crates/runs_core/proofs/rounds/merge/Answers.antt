use Rattle.std.proofs.Common.{◌≡◌, arith, ap, length, refl, rules, sym, ◌∙◌}
use Rattle.std.proofs.lemmas.List.{length-map}
use Rattle.runs_core.proofs.HearingLemmas.{all_taken, none_taken, take_one}
use Rattle.runs_core.specs.Shares.{worker_of}
use Rattle.runs_core.proofs.rounds.merge.Goals as goal

pub loop-place-init : goal.loop-place-init
loop-place-init c =
    none_taken (length c.args.queues.now.items) c.args.first c.args.added.now _ _ _ _ refl c.requires.none refl (length-map c.args.queues.now.items (λ queue. queue.items))

pub loop-place-preserved : goal.loop-place-preserved
loop-place-preserved c =
    let many : c.len.result ≡ length c.args.queues.now.items =
    omega (arith, c.len.ensures, c.loop-place.queues.ok, c.loop-place.invariant.count, length-map c.loop-place.queues.items (λ queue. queue.items)) in
    take_one (λ queue. queue.items) (length c.args.queues.now.items) c.args.first c.args.added.now c.loop-place.place c.loop-place.answers.items c.push.new.self.items c.in-Some.answer _ c.loop-place.queues.items
    c.worker_of-worker.result c.index_mut.result.now c.next_answer.new.queue c.index-added-place.result
    (omega (arith, c.loop-place-test.true)) c.loop-place.invariant (omega (arith, many, c.worker_of-worker.ensures.within)) (search rules) c.in-Some.ensures.taken
    (search rules) c.index-added-place.is (c.worker_of-worker.ensures.value ∙ ap (λ item. worker_of c.len.result item.1) (sym c.index-added-place.is) ∙ ap (λ workers. worker_of workers c.index-added-place.result.1) many) c.in_ok-push.ensures.items

pub returns-then-none_left-clause-answers : goal.returns-then-none_left-clause-answers
returns-then-none_left-clause-answers c =
    let none = c.none_left.ensures c.if-none_left.true in
    all_taken (λ queue. queue.items) (length c.args.queues.now.items) c.args.first c.args.added.now c.loop-place.place c.loop-place.answers.items _ c.loop-place.queues.items
    (omega (arith, c.loop-place-test.false)) (length-map c.args.queues.now.items (λ queue. queue.items)) (rw c.as_slice.ensures.value at none) c.loop-place.invariant
