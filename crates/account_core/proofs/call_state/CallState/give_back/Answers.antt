use Rattle.std.proofs.Common.{◌≡◌, ◌∙◌, ap, arith, rules}
use Rattle.std.specs.Prelude.{unwrap_or}
use Rattle.account_core.specs.Kept.{known_of}
use Rattle.account_core.specs.Known.{paid_of}
use Rattle.account_core.proofs.CallStateLemmas.{paid_or_nothing, paid_within}
use Rattle.account_core.proofs.call_state.CallState.give_back.Goals as goal

pub overflow_sub-result : goal.overflow_sub-result
overflow_sub-result c =
    let paid : c.unwrap_or-paid.result ≡ paid_of (known_of c.args.self.now) =
    c.unwrap_or-paid.ensures ∙ (ap (λ paid. unwrap_or paid 0) c.paid_if_granted.ensures ∙ paid_or_nothing c.args.self.now) in
    omega (arith, paid, paid_within c.ceiling_is_greatest.ensures.not_passed (known_of c.args.self.now) c.requires.sound)

pub returns : goal.returns
returns c =
    let paid : c.unwrap_or-paid.result ≡ paid_of (known_of c.args.self.now) =
    c.unwrap_or-paid.ensures ∙ (ap (λ paid. unwrap_or paid 0) c.paid_if_granted.ensures ∙ paid_or_nothing c.args.self.now) in
    rw paid (search rules)
