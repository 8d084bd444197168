use Rattle.std.proofs.Common.{◌∙◌, refl, sym}
use Rattle.price_core.specs.RatesOf.{rates_of}
use Rattle.price_core.proofs.CeilingLemmas.{ceiling_double, ceiling_single, ceiling_switched, unswitched_by}
use Rattle.price_core.proofs.pricing.ceiling.Goals as goal

pub returns-in-Some-clause-exact : goal.returns-in-Some-clause-exact
returns-in-Some-clause-exact c =
    rw (c.before-3.ensures.value, c.after-2.ensures.value) at c.price-at_second.ensures.exact
    ∙ sym (ceiling_switched (rates_of c.args.plan.now) c.args.old c.args.more (sym c.if-switched.ensures.value) (rw c.in-Some.is refl))

pub returns-in-Some-2-clause-exact : goal.returns-in-Some-2-clause-exact
returns-in-Some-2-clause-exact c =
    let first = rw (c.before-2.ensures.value, c.after.ensures.value) at c.price-at_first.ensures.exact in
    let second = rw (c.before-3.ensures.value, c.after-2.ensures.value) at c.price-at_second.ensures.exact in
    let unswitched = sym c.if-switched.ensures.value in
    rw (c.max.ensures, first, second)
    (sym (ceiling_double (rates_of c.args.plan.now) c.args.old c.args.more unswitched (c.after.ensures.unswitched unswitched) (rw c.in-Some.is refl)))

pub returns-in-None-clause-exact : goal.returns-in-None-clause-exact
returns-in-None-clause-exact c =
    let unswitched = unswitched_by c.args.old.switched c.args.plan.now.after c.requires.rated c.in-None.is in
    rw (c.before-2.ensures.value, c.after.ensures.value) at c.price-at_first.ensures.exact
    ∙ sym (ceiling_single (rates_of c.args.plan.now) c.args.old c.args.more unswitched (c.after.ensures.unswitched unswitched) (rw c.in-None.is refl))
