-- What a plan of the code says.
use Rattle.price_core.specs.Rates.{Rates}
use Rattle.price_core.specs.declared.plan.Plan.{Plan}

-- the fee, the rates, the free units and the billing steps of a plan
abbrev pub rates_of : Plan → Rates
rates_of plan = record { fee = plan.fee; before = plan.before; after = plan.after; free = plan.free; first = plan.first; step = plan.step }
