use Rattle.std.proofs.Common.{◌∙◌}
use Rattle.std.proofs.lemmas.List.{take_all}
use Rattle.run_outputs.proofs.AccountLemmas.{paid_next, paid_summed}
use Rattle.run_outputs.proofs.accounts.paid_in.Goals as goal

pub loop-sum-preserved : goal.loop-sum-preserved
loop-sum-preserved c = λ call.
    paid_next call c.args.sums.now c.loop-sum.sum-index _ _ _ c.loop-sum-test.true (c.loop-sum.invariant call) (c.in_ok-keep_paid.ensures call)

pub returns : goal.returns
returns c = λ h are call.
    c.loop-sum.invariant call
    ∙ rw (take_all c.loop-sum.sum-index c.args.sums.now c.loop-sum-test.false, are.each call) (paid_summed call h)
