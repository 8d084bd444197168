use Rattle.std.proofs.Common.{◌++◌, ap, append_assoc, sym, ◌∙◌}
use Rattle.account_core.specs.Sums.{sums_known}
use Rattle.account_core.proofs.call_states.map_sums.Goals as goal

pub loop-call-preserved : goal.loop-call-preserved
loop-call-preserved c =
    rw (c.in_ok-add_sum.ensures, append_assoc)
    (ap (λ rest. c.loop-call.sums.items ++ sums_known rest) (sym c.in-Some.ensures.steps) ∙ c.loop-call.invariant)
