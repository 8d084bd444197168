use Rattle.std.proofs.Common.{◌+◌, ◌-◌, ◌*◌, ◌<◌, ◌≤◌, ℕ, arith, sym, subst}
use Rattle.std.proofs.lemmas.Grind.{div_ceil_times}
use Rattle.std.proofs.lemmas.Nat.{mul-le}
use Rattle.price_core.specs.declared.plan.TheConstants.{MAX_RATE}
use Rattle.price_core.specs.declared.times.TheConstants.{DAY}
use Rattle.price_core.proofs.Prices.{billed_grows}
use Rattle.price_core.proofs.pricing.price.Goals as goal

-- units of less than two days cost at most those of two days less one at the highest rate
cost_within : (first all rate later : ℕ) → first < 2 * DAY → all < 2 * DAY → rate ≤ MAX_RATE → later ≤ MAX_RATE
    → first * rate + (all - first) * later ≤ (2 * DAY - 1) * MAX_RATE
cost_within first all rate later few many low lower =
    omega (arith, mul-le first rate first MAX_RATE (omega arith) low, mul-le (all - first) later (all - first) MAX_RATE (omega arith) lower)

pub overflow_add-cost : goal.overflow_add-cost
overflow_add-cost c =
    let plan = c.args.plan.now in
    let later = subst (λ n. n ≤ MAX_RATE) (sym c.unwrap_or.ensures) plan.after_in_range in
    let within = cost_within c.billed-first.result c.billed.result plan.before c.unwrap_or.result c.billed-first.ensures.bounded c.billed.ensures.bounded plan.before_in_range later in
    rw (c.from.ensures, c.from-2.ensures) (omega (arith, within))

pub returns-clause-bounded : goal.returns-clause-bounded
returns-clause-bounded c =
    let plan = c.args.plan.now in
    let later = subst (λ n. n ≤ MAX_RATE) (sym c.unwrap_or.ensures) plan.after_in_range in
    let within = cost_within c.billed-first.result c.billed.result plan.before c.unwrap_or.result c.billed-first.ensures.bounded c.billed.ensures.bounded plan.before_in_range later in
    let cost = c.billed-first.result * plan.before + (c.billed.result - c.billed-first.result) * c.unwrap_or.result in
    let rounded = rw (c.from.ensures, c.from-2.ensures) at c.div_ceil.ensures in
    rw rounded (omega (arith, within, (div_ceil_times cost 600 (omega arith)).1, plan.fee_in_range))

pub overflow_sub-second : goal.overflow_sub-second
overflow_sub-second c = rw (c.billed-first.ensures.exact, c.billed.ensures.exact) (billed_grows _ _ _ (omega arith))
