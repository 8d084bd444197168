-- What the options of `quote` say.
use Rattle.std.specs.Prelude.{ℕ, List, Option, Some, None, codes, if◌then◌else◌, option_and_then, option_map}
use Rattle.std.specs.Option.{option_or}
use Rattle.clap.specs.Words.{Row, Text, first_of}
use Rattle.cap_values.specs.Numbers.{is_number}
use Rattle.tariff_core.specs.Reading.{moment_of}
use Rattle.tariff_core.specs.TariffTable.{time_of}
use Rattle.price_core.specs.declared.plan.TheConstants.{MAX_MONEY}
use Rattle.price_core.specs.declared.times.TheConstants.{DAY, MAX_MOMENT}
use Rattle.table_commands.specs.Options.{clock_by, has_flag, optional_number_in}
use Rattle.table_commands.specs.QuoteWishes.{QuoteWish}

-- the digits of a number, 1 to 15 of them
abbrev pub called_of : Text → Option (List ℕ)
called_of text = if is_number text then Some text else None

-- the moment that is asked for: `HH:MM` of the first day, a number of units, or a date and a time, at most `MAX_MOMENT`
abbrev pub moment_asked : Text → Option ℕ
moment_asked text = option_or (time_of text) (moment_of MAX_MOMENT text)

-- the called number
abbrev pub wished_called : List Row → Option (List ℕ)
wished_called options = option_and_then called_of (first_of (codes "called") options)

-- the moment
abbrev pub wished_moment : List Row → Option ℕ
wished_moment options = option_and_then moment_asked (first_of (codes "at") options)

-- what is asked of a number at a moment
abbrev pub quote_asked_at : List Row → List ℕ → ℕ → Option QuoteWish
quote_asked_at options called at = option_and_then (λ talk.
    option_map (λ credit. record { called = called; at = at; talk = talk; credit = credit; clock = clock_by (has_flag options (codes "clock")) })
    (optional_number_in options (codes "credit") MAX_MONEY)) (optional_number_in options (codes "for") DAY)

-- what the options ask for
unfoldable pub wished_quote : List Row → Option QuoteWish
wished_quote options = option_and_then (λ called. option_and_then (λ at. quote_asked_at options called at) (wished_moment options)) (wished_called options)
