use Rattle.std.proofs.Common.{◌++◌, ap, append_assoc, sym, ◌∙◌}
use Rattle.run_values.proofs.directory.ascending.Goals as goal

pub loop-number-preserved : goal.loop-number-preserved
loop-number-preserved c =
    let before = c.loop-number.ascending.items in
    let left = c.next.new.self in
    ap (λ items. items ++ left) c.in_ok-push.ensures.items ∙ append_assoc before _ left ∙ ap (λ rest. before ++ rest) (sym c.in-Some.ensures.steps) ∙ c.loop-number.invariant
