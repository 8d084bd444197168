use Rattle.std.proofs.Common.{◌+◌, ◌-◌, min, sym, arith}
use Rattle.price_core.specs.RatesOf.{rates_of}
use Rattle.price_core.proofs.AffordLemmas.{halving_ends, units_covered_are}
use Rattle.price_core.proofs.pricing.afford.Goals as goal

pub returns-clause-exact : goal.returns-clause-exact
returns-clause-exact c =
    sym (halving_ends (rates_of c.args.plan.now) c.args.old c.args.money (min c.args.wanted (864000 - (c.args.old.before + c.args.old.after)))
    c.loop-covered.covered c.loop-covered.beyond (omega arith) (omega arith) (omega arith) c.loop-covered.invariant.2 c.loop-covered.invariant.3)

pub returns-then-ceiling-money-clause-exact : goal.returns-then-ceiling-money-clause-exact
returns-then-ceiling-money-clause-exact c =
    sym (units_covered_are (rates_of c.args.plan.now) c.args.old c.args.money (min c.args.wanted (864000 - (c.args.old.before + c.args.old.after)))
    c.min-most.result (omega arith) (λ some. rw (sym c.ceiling.ensures.exact) c.if-ceiling-money.true) (λ units more le. absurd (omega arith)))
