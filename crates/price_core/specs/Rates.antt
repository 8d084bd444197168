-- What a plan says, as plain numbers.
use Rattle.std.specs.Prelude.{◌==◌, ◌≤◌, ◌||◌, ℕ, Bool, Option, not, unwrap_or}
use Rattle.price_core.specs.declared.plan.TheConstants.{MAX_RATE}
use Rattle.price_core.specs.declared.times.TheConstants.{DAY}

-- a fee, the rate a minute before the tariff switch, the rate after it where there is one, how many units are free, the least units that are billed once any is, and the units of a billing step beyond them
pub record Rates : Type 0 where
  pub fee : ℕ
  pub before : ℕ
  pub after : Option ℕ
  pub free : ℕ
  pub first : ℕ
  pub step : ℕ

-- the rates that a plan may have: each at most 10^9
pub record AreRates (fee before : ℕ) (after : Option ℕ) : Type 0 where
  pub fee_in_range : fee ≤ MAX_RATE
  pub before_in_range : before ≤ MAX_RATE
  pub after_in_range : unwrap_or after 0 ≤ MAX_RATE

-- the billing steps that a plan may have: the first at most a day, and each further one 1 unit to a day
pub record AreSteps (first step : ℕ) : Type 0 where
  pub first_in_range : first ≤ DAY
  pub step_positive : 1 ≤ step
  pub step_in_range : step ≤ DAY

-- whether units are billed in steps, and not each by itself
abbrev pub are_steps : ℕ → ℕ → Bool
are_steps first step = not (first == 0) || not (step == 1)

-- whether a plan bills in steps
abbrev pub has_steps : Rates → Bool
has_steps plan = are_steps plan.first plan.step
