use Rattle.std.proofs.Common.{◌≡◌, ◌+◌, ◌*◌, ◌<◌, ℕ, refl, arith}
use Rattle.std.specs.Int.{div_ceil}
use Rattle.std.proofs.lemmas.Grind.{div_ceil_times}
use Rattle.price_core.specs.Price.{billed}
use Rattle.price_core.proofs.pricing.billed.Goals as goal

-- the whole steps that cover some units are less than one step more than these
steps_below : (beyond step steps : ℕ) → 0 < step → steps ≡ div_ceil beyond step → steps * step < beyond + step
steps_below beyond step steps positive is = rw is (div_ceil_times beyond step positive).1

pub overflow_mul-result : goal.overflow_mul-result
overflow_mul-result c =
    let plan = c.args.plan.now in
    let below = steps_below c.saturating_sub-beyond.result plan.step c.div_ceil.result plan.step_positive c.div_ceil.ensures in
    omega (arith, below, c.saturating_sub-beyond.ensures, c.requires, plan.step_within_day)

pub overflow_add-result : goal.overflow_add-result
overflow_add-result c =
    let plan = c.args.plan.now in
    let below = steps_below c.saturating_sub-beyond.result plan.step c.div_ceil.result plan.step_positive c.div_ceil.ensures in
    omega (arith, below, c.saturating_sub-beyond.ensures, c.requires, plan.step_within_day, plan.first_within_day)

pub returns-then-charged-eq0-clause-exact : goal.returns-then-charged-eq0-clause-exact
unfolding billed
returns-then-charged-eq0-clause-exact c = rw (c.if-charged-eq0.true) refl

pub returns-clause-bounded : goal.returns-clause-bounded
returns-clause-bounded c =
    let plan = c.args.plan.now in
    let below = steps_below c.saturating_sub-beyond.result plan.step c.div_ceil.result plan.step_positive c.div_ceil.ensures in
    omega (arith, below, c.saturating_sub-beyond.ensures, c.requires, plan.step_within_day, plan.first_within_day)
