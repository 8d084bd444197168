use Rattle.std.proofs.Common.{◌++◌, ◌∷◌, ◌∙◌, [], ap, arith, refl, rules, sym}
use Rattle.std.proofs.lemmas.List.{length-map}
use Rattle.runs_core.proofs.Refusing.{all_answer, none_answer, one_answer}
use Rattle.runs_core.proofs.shares.refusals.Goals as goal

pub loop-place-init : goal.loop-place-init
loop-place-init c = none_answer c.args.workers c.args.given.now c.args.answers.now _ _ refl c.in_ok-lists.ensures

pub index_mut-requires : goal.index_mut-requires
index_mut-requires c =
    omega (arith, c.worker_of-worker.ensures.within, c.loop-place.invariant.count, length-map c.loop-place.lists.items (λ list. list.items), c.loop-place.lists.ok)

pub loop-place-preserved : goal.loop-place-preserved
loop-place-preserved c =
    one_answer (λ list. list.items) c.args.workers c.args.given.now c.args.answers.now c.loop-place.place c.loop-place.lists.items c.index-given-place.result c.index-answers-place.result c.worker_of-worker.result c.index_mut.result.now c.push.new.self
    (omega (arith, c.loop-place-test.true)) c.requires.each c.loop-place.invariant c.worker_of-worker.ensures.within (search rules)
    (c.in_ok-push.ensures.items ∙ ap (λ answer. c.index_mut.result.now.items ++ answer.refused ∷ []) (sym c.index-answers-place.is)) c.index-given-place.is c.index-answers-place.is (search rules)

pub returns : goal.returns
returns c = all_answer c.args.workers c.args.given.now c.args.answers.now c.loop-place.place _ (omega (arith, c.loop-place-test.false)) c.requires.each c.loop-place.invariant
