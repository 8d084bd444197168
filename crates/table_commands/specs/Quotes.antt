-- The lines that `quote` prints.
use Rattle.std.specs.Prelude.{◌≡◌, ◌⊎◌, ℕ, List, [], ◌∷◌, ◌++◌, Option, Some, None, codes, if◌then◌else◌}
use Rattle.std.specs.Fmt.{decimal}
use Rattle.tariff_core.specs.Printing.{moment_text, time_text}
use Rattle.tariff_core.specs.declared.clock.Clock.{Clock}
use Rattle.table_core.specs.Decimals.{digits_text}
use Rattle.price_core.specs.Afford.{units_afforded}
use Rattle.tariff_core.specs.Bands.{Band}
use Rattle.price_core.specs.RatesOf.{rates_of}
use Rattle.price_core.specs.Rates.{Rates, has_steps}
use Rattle.tariff_core.specs.Routes.{HasNoRoute, IsQuote}
use Rattle.price_core.specs.Times.{no_times}
use Rattle.price_core.specs.declared.route.Route.{Route}
use Rattle.price_core.specs.declared.times.TheConstants.{DAY}
use Rattle.table_commands.specs.QuoteWishes.{QuoteWish}
use Rattle.rating.specs.Charges.{price_of_call}

-- the digits of a prefix, and `-` for none
abbrev pub prefix_text : List ℕ → List ℕ
prefix_text [] = codes "-"
prefix_text (digit ∷ digits) = digits_text (digit ∷ digits)

-- ` first F step S`, where a plan bills in steps
abbrev pub steps_text : Rates → List ℕ
steps_text plan = if has_steps plan then codes " first " ++ (decimal plan.first ++ (codes " step " ++ decimal plan.step)) else []

-- `fee F rate R free U`, its steps, if it has any, and the end of its line
abbrev pub plan_text : Rates → List ℕ
plan_text plan =
    codes " fee " ++ (decimal plan.fee ++ (codes " rate " ++ (decimal plan.before ++ (codes " free " ++ (decimal plan.free ++ (steps_text plan ++ codes "\n"))))))

-- `prefix P from HH:MM fee F rate R free U`, and steps behind it
abbrev pub band_line : List ℕ → ℕ → Rates → List ℕ
band_line prefix start plan = codes "prefix " ++ (prefix_text prefix ++ (codes " from " ++ (time_text start ++ plan_text plan)))

-- where there is a switch, `switch M rate R`, with its moment as a clock prints it
abbrev pub switch_line : Clock → Option ℕ → Option ℕ → List ℕ
switch_line clock (Some at) (Some rate) = codes "switch " ++ (moment_text clock at ++ (codes " rate " ++ (decimal rate ++ codes "\n")))
switch_line clock _ _ = []

-- `price N` of a call that lasts so long, where that is asked for
abbrev pub price_line : Rates → ℕ → Option ℕ → Option ℕ → List ℕ
price_line plan at switch None = []
price_line plan at switch (Some talk) = codes "price " ++ (decimal (price_of_call plan at switch talk) ++ codes "\n")

-- `afford N`: the units of a day that a credit affords at their dearest, where that is asked for
abbrev pub afford_line : Rates → Option ℕ → List ℕ
afford_line plan None = []
afford_line plan (Some credit) = codes "afford " ++ (decimal (units_afforded plan no_times DAY credit) ++ codes "\n")

-- the lines of a quote
abbrev pub quote_lines : QuoteWish → List ℕ → ℕ → Route → List ℕ
quote_lines wish prefix start route =
    band_line prefix start (rates_of route.plan)
    ++ (switch_line wish.clock route.switch_at route.plan.after
    ++ (price_line (rates_of route.plan) wish.at route.switch_at wish.talk ++ afford_line (rates_of route.plan) wish.credit))

-- the lines of the quote that a tariff has for a number at a moment
pub record IsQuoted (bands : List Band) (wish : QuoteWish) (text : List ℕ) : Type 0 where
  pub prefix : List ℕ
  pub start : ℕ
  pub route : Route
  pub is_quote : IsQuote bands wish.called wish.at prefix start route
  pub lines : text ≡ quote_lines wish prefix start route

-- what `quote` prints: these lines, or `no route` where the number has none
abbrev pub IsQuoteText : List Band → QuoteWish → List ℕ → Type 0
IsQuoteText bands wish text = IsQuoted bands wish text ⊎ (HasNoRoute bands wish.called × (text ≡ codes "no route\n"))
