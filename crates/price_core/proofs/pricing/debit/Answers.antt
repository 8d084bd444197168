use Rattle.std.proofs.Common.{arith}
use Rattle.price_core.specs.RatesOf.{rates_of}
use Rattle.price_core.proofs.Prices.{price_at_grows}
use Rattle.price_core.proofs.pricing.debit.Goals as goal

pub overflow_sub-result : goal.overflow_sub-result
overflow_sub-result c =
    let new = rw (c.before-2.ensures.value, c.after.ensures.value) at c.price.ensures.exact in
    let old = rw (c.before-3.ensures.value, c.after-2.ensures.value) at c.price-2.ensures.exact in
    omega (arith, new, old, price_at_grows (rates_of c.args.plan.now) c.args.old c.args.new 864000 c.requires c.after-2.ensures.unswitched)

pub returns-clause-exact : goal.returns-clause-exact
returns-clause-exact c =
    let new = rw (c.before-2.ensures.value, c.after.ensures.value) at c.price.ensures.exact in
    let old = rw (c.before-3.ensures.value, c.after-2.ensures.value) at c.price-2.ensures.exact in
    omega (arith, new, old, price_at_grows (rates_of c.args.plan.now) c.args.old c.args.new 864000 c.requires c.after-2.ensures.unswitched)
