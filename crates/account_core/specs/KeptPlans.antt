-- What the plan of a state says.
use Rattle.price_core.specs.Rates.{Rates}
use Rattle.account_core.specs.declared.kept_plan.KeptPlan.{KeptPlan}

-- the fee, the rates, the free units and the billing steps of a plan that is kept
abbrev pub rates_kept : KeptPlan → Rates
rates_kept plan = record { fee = plan.fee; before = plan.before; after = plan.after; free = plan.free; first = plan.first; step = plan.step }
