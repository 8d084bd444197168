-- The price of a call by its route.
use Rattle.std.specs.Prelude.{◌-◌, ℕ, Option, Some, None, min}
use Rattle.price_core.specs.Price.{price_of}
use Rattle.price_core.specs.Rates.{Rates}

-- of a call that is answered at a moment and lasts so long, how much of it lies before the switch
abbrev pub before_switch : ℕ → ℕ → Option ℕ → ℕ
before_switch at talk None = talk
before_switch at talk (Some switch) = min talk (switch - at)

-- what such a call costs
abbrev pub price_of_call : Rates → ℕ → Option ℕ → ℕ → ℕ
price_of_call plan at switch talk = price_of plan (before_switch at talk switch) (talk - before_switch at talk switch)
