-- What the options of `price` and of `replay` say.
use Rattle.std.specs.Prelude.{ℕ, Bool, true, false, List, Option, Some, None, codes, if◌then◌else◌, nat_le, option_and_then, option_map, unwrap_or}
use Rattle.std.specs.Str.{bytes_eq}
use Rattle.clap.specs.Words.{Row, Text, first_of}
use Rattle.tariff_core.specs.declared.clock.Clock.{Clock}
use Rattle.tariff_core.specs.declared.clock.Clock.TheVariants as clock
use Rattle.table_core.specs.Decimals.{decimal_of}
use Rattle.price_core.specs.Rates.{Rates}
use Rattle.table_commands.specs.Wishes.{Wish, Replays}
use Rattle.price_core.specs.declared.plan.TheConstants.{MAX_MONEY}
use Rattle.account_core.specs.declared.limits.TheConstants.{MAX_LIMIT, MIN_LIMIT}
use Rattle.price_core.specs.declared.plan.TheConstants.{MAX_RATE}
use Rattle.price_core.specs.declared.times.TheConstants.{DAY}

-- the number of an option, where it is given and at most `most`
abbrev pub wished_number : List Row → Text → ℕ → Option ℕ
wished_number options name most = option_and_then (decimal_of most) (first_of name options)

-- the number that a text writes, where there is a text
abbrev pub optional_decimal : ℕ → Option Text → Option (Option ℕ)
optional_decimal most None = Some None
optional_decimal most (Some text) = option_map (λ number. Some number) (decimal_of most text)

-- the same of an option that may be left out
abbrev pub optional_number_in : List Row → Text → ℕ → Option (Option ℕ)
optional_number_in options name most = optional_decimal most (first_of name options)

-- whether the text of a flag says that it was given
abbrev pub is_yes : Option Text → Bool
is_yes None = false
is_yes (Some text) = bytes_eq text (codes "true")

-- whether a flag was given
abbrev pub has_flag : List Row → Text → Bool
has_flag options name = is_yes (first_of name options)

-- how moments are printed: as dates and times where that was asked for
abbrev pub clock_by : Bool → Clock
clock_by false = clock.Digits
clock_by true = clock.Dates

-- a number that is no less than the least
abbrev pub at_least : ℕ → ℕ → Option ℕ
at_least least number = if nat_le least number then Some number else None

-- the free units of `price`: a day at most, and none where that is left out
abbrev pub wished_free : List Row → Option ℕ
wished_free options = option_map (λ free. unwrap_or free 0) (optional_number_in options (codes "free") DAY)

-- the least units that `price` bills: a day at most, and none where that is left out
abbrev pub wished_first : List Row → Option ℕ
wished_first options = option_map (λ first. unwrap_or first 0) (optional_number_in options (codes "first") DAY)

-- the units of a billing step of `price`: 1 to a day, and 1 where that is left out
abbrev pub wished_step : List Row → Option ℕ
wished_step options = option_and_then (λ step. at_least 1 (unwrap_or step 1)) (optional_number_in options (codes "step") DAY)

-- a fee and rates, with the free units and the billing steps of `price`
abbrev pub plan_of : List Row → ℕ → ℕ → Option ℕ → Option Rates
plan_of options fee before after = option_and_then (λ free. option_and_then (λ first.
    option_map (λ step. record { fee = fee; before = before; after = after; free = free; first = first; step = step }) (wished_step options))
    (wished_first options)) (wished_free options)

-- the plan of `price`: fee and rates, each at most `MAX_RATE`, free units and billing steps
abbrev pub wished_plan : List Row → Option Rates
wished_plan options = option_and_then (λ fee. option_and_then (λ before. option_and_then (λ after. plan_of options fee before after)
    (optional_number_in options (codes "after") MAX_RATE)) (wished_number options (codes "before") MAX_RATE)) (wished_number options (codes "fee") MAX_RATE)

-- the limit of a history: 3 to 1,000,000, which it is where it is left out
abbrev pub limit_in : List Row → Option ℕ
limit_in options = option_and_then (λ limit. at_least MIN_LIMIT (unwrap_or limit MAX_LIMIT)) (optional_number_in options (codes "limit") MAX_LIMIT)

-- the account of `replay`: its opening credit, at most `MAX_MONEY`, and its limit
abbrev pub wished_account : List Row → Option Wish
wished_account options = option_and_then (λ opening. option_map (λ limit. Replays opening limit) (limit_in options)) (wished_number options (codes "opening") MAX_MONEY)
