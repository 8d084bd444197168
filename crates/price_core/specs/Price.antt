-- The price of a call.
use Rattle.std.specs.Prelude.{◌+◌, ◌-◌, ◌*◌, ◌==◌, ℕ, if◌then◌else◌, unwrap_or}
use Rattle.std.specs.Int.{div_ceil}
use Rattle.price_core.specs.Rates.{Rates}
use Rattle.price_core.specs.Times.{Elapsed}

-- the rate after the tariff switch, which is 0 where the plan has none
abbrev pub second_rate : Rates → ℕ
second_rate plan = unwrap_or plan.after 0

-- the units before the switch that are charged for: those beyond the free units
abbrev pub charged_before : Rates → ℕ → ℕ
charged_before plan before = before - plan.free

-- the units after the switch that are charged for: those beyond the free units that the time before it left
abbrev pub charged_after : Rates → ℕ → ℕ → ℕ
charged_after plan before after = after - (plan.free - before)

-- the units that are billed where any number is charged for: the first ones whole, and what lies beyond them in whole steps
unfoldable pub billed : Rates → ℕ → ℕ
billed plan charged = if charged == 0 then 0 else plan.first + div_ceil (charged - plan.first) plan.step * plan.step

-- the units billed at the rate before the switch: a step that begins before it is billed whole before it
abbrev pub billed_before : Rates → ℕ → ℕ
billed_before plan before = billed plan (charged_before plan before)

-- the units billed at both rates together
abbrev pub billed_in_all : Rates → ℕ → ℕ → ℕ
billed_in_all plan before after = billed plan (charged_before plan before + charged_after plan before after)

-- what the billed units cost at their rates a minute, in parts of which 600 are one unit of money
abbrev pub cost_of : Rates → ℕ → ℕ → ℕ
cost_of plan before after =
    billed_before plan before * plan.before + (billed_in_all plan before after - billed_before plan before) * second_rate plan

-- nothing for no time, else the fee and what the billed units cost, rounded up once. A minute has 600 units of 100 ms
abbrev pub price_of : Rates → ℕ → ℕ → ℕ
price_of plan before after = if before + after == 0 then 0 else plan.fee + div_ceil (cost_of plan before after) 600

-- the price of times
abbrev pub price_at : Rates → Elapsed → ℕ
price_at plan times = price_of plan times.before times.after
