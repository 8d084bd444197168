-- The rows of a tariff table.
use Rattle.std.specs.Prelude.{◌+◌, ◌/◌, ◌%◌, ◌==◌, ◌&&◌, ◌||◌, ℕ, Bool, List, [], ◌∷◌, Option, Some, None, if◌then◌else◌, is_some, length}
use Rattle.std.specs.List.{list_all, list_any}
use Rattle.std.specs.Str.{bytes_eq}
use Rattle.price_core.specs.Rates.{are_steps}
use Rattle.price_core.specs.declared.times.TheConstants.{DAY}

-- a row: on its days, calls whose number begins with the prefix cost the fee and, but for free units, the rate a minute, billed in steps, from the start of day on. The days are digits, 1 for Monday to 7 for Sunday; none stands for each day
pub record Band : Type 0 where
  pub prefix : List ℕ
  pub start : ℕ
  pub fee : ℕ
  pub rate : ℕ
  pub free : ℕ
  pub first : ℕ
  pub step : ℕ
  pub days : List ℕ

-- the weekday of a moment, 1 for Monday to 7 for Sunday: moment 0 is midnight at the start of a Thursday
abbrev pub weekday : ℕ → ℕ
weekday moment = (moment / DAY + 3) % 7 + 1

-- Monday to Sunday
abbrev pub weekdays : List ℕ
weekdays = 1 ∷ 2 ∷ 3 ∷ 4 ∷ 5 ∷ 6 ∷ 7 ∷ []

-- whether a row counts on a weekday: its digit, which is 48 above the day, is one of the row's, or the row has none
abbrev pub counts_on : ℕ → Band → Bool
counts_on day band = (length band.days == 0) || list_any (λ digit. digit == 48 + day) band.days

-- whether a row is for this prefix, counts on this weekday, and has this start
abbrev pub is_at : List ℕ → ℕ → ℕ → Band → Bool
is_at prefix day start band = bytes_eq band.prefix prefix && (band.start == start) && counts_on day band

-- the row for a prefix, a weekday and a start, the first where there are more
unfoldable pub band_at : List ℕ → ℕ → ℕ → List Band → Option Band
band_at prefix day start [] = None
band_at prefix day start (band ∷ bands) = if is_at prefix day start band then Some band else band_at prefix day start bands

-- whether there is a row for a prefix, a weekday and a start
abbrev pub has_band : List ℕ → ℕ → ℕ → List Band → Bool
has_band prefix day start bands = is_some (band_at prefix day start bands)

-- whether a prefix has a row from midnight on, on each weekday
abbrev pub has_midnights : List ℕ → List Band → Bool
has_midnights prefix bands = list_all (λ day. has_band prefix day 0 bands) weekdays

-- whether any row bills in steps
abbrev pub have_steps : List Band → Bool
have_steps bands = list_any (λ band. are_steps band.first band.step) bands
