use Rattle.std.proofs.Common.{◌++◌, ◌∙◌, ap, append-nil, sym, take}
use Rattle.std.proofs.lemmas.List.{take_all}
use Rattle.run_outputs.proofs.RefusalLemmas.{answer_more, not_refused, refused_more}
use Rattle.run_outputs.specs.Refused.{one_refusal_more, refusals_counted_in}
use Rattle.run_outputs.proofs.refusals.Refusals.hear.Goals.{in-Some, in_default}
use Rattle.run_outputs.proofs.refusals.Refusals.hear.Goals as goal

pub loop-answer-init : goal.loop-answer-init
loop-answer-init c = λ heard are. are ∙ ap (λ l. refusals_counted_in l) (sym (append-nil heard))

pub loop-answer-preserved : goal.loop-answer-preserved
loop-answer-preserved c = λ heard are.
    let so_far = heard ++ take c.loop-answer.answer-index c.args.answers.now in
    let answer = c.answer-item.result in
    let was = c.loop-answer.invariant heard are in
    let more = answer_more c.args.answers.now c.loop-answer.answer-index answer heard c.loop-answer-test.true c.answer-item.is in
    elim c.match-answer.branch [
      | in-Some w ↦ w.self-is ∙ w.count.ensures ∙ ap (λ r. one_refusal_more r w.in-Some.fault) was ∙ refused_more so_far answer w.in-Some.fault w.in-Some.is ∙ more
      | in_default w ↦ w.self-is ∙ was ∙ not_refused so_far answer w.in_default.is ∙ more
    ]

pub returns : goal.returns
returns c = λ heard are. c.loop-answer.invariant heard are ∙ ap (λ l. refusals_counted_in (heard ++ l)) (take_all c.loop-answer.answer-index c.args.answers.now c.loop-answer-test.false)
