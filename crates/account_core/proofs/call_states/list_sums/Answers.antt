use Rattle.std.proofs.Common.{◌+◌, ◌++◌, ◌∷◌, ap, append_assoc, drop, sym, ◌∙◌}
use Rattle.std.proofs.lemmas.List.{append-nil, drop_all, drop_more}
use Rattle.account_core.specs.Sums.{sums_known}
use Rattle.account_core.proofs.call_states.list_sums.Goals as goal

pub loop-call-preserved : goal.loop-call-preserved
loop-call-preserved c =
    let calls = c.args.calls.now in
    let i = c.loop-call.call-index in
    let item = c.loop-call-item.result in
    let next = drop_more calls i item c.loop-call-test.true ∙ ap (λ e. e ∷ drop (i + 1) calls) (sym c.loop-call-item.is) in
    rw (c.in_ok-add_sum.ensures, append_assoc) (ap (λ rest. c.loop-call.sums.items ++ sums_known rest) (sym next) ∙ c.loop-call.invariant)

pub returns : goal.returns
returns c = rw (drop_all c.loop-call.call-index c.args.calls.now c.loop-call-test.false, append-nil) at c.loop-call.invariant
