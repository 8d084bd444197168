-- The moment that a text writes.
use Rattle.std.specs.Prelude.{◌+◌, ◌*◌, ◌==◌, ◌&&◌, ◌||◌, ℕ, List, length, Option, Some, None, if◌then◌else◌, nat_le, option_and_then, slice_index, take, drop}
use Rattle.std.specs.Option.{option_or}
use Rattle.table_core.specs.Decimals.{decimal_of}
use Rattle.tariff_core.specs.TariffTable.{time_of as minutes_of}
use Rattle.price_core.specs.declared.times.TheConstants.{DAY}
use Rattle.tariff_core.specs.Calendar.{day_at}

-- two amounts of units together, where both are there; the first is of so many units each
abbrev pub both : ℕ → Option ℕ → Option ℕ → Option ℕ
both each None units = None
both each (Some count) None = None
both each (Some count) (Some units) = Some (count * each + units)

-- the number of a day by its year, month and day, where these are there
abbrev pub day_by : Option ℕ → Option ℕ → Option ℕ → Option ℕ
day_by None month day = None
day_by (Some year) None day = None
day_by (Some year) (Some month) None = None
day_by (Some year) (Some month) (Some day) = day_at year month day

-- the day that `YYYY-MM-DD` writes, in days after 1 January 1970
unfoldable pub day_of : List ℕ → Option ℕ
day_of text =
    if (length text == 10) && (slice_index text 4 == 45) && (slice_index text 7 == 45)
    then day_by (decimal_of 9999 (take 4 text)) (decimal_of 12 (take 2 (drop 5 text))) (decimal_of 31 (drop 8 text)) else None

-- the seconds that `SS` or `SS.T` writes, in units of 100 ms
unfoldable pub seconds_of : List ℕ → Option ℕ
seconds_of text =
    if length text == 2 then both 10 (decimal_of 59 text) (Some 0) else
    if (length text == 4) && (slice_index text 2 == 46) then both 10 (decimal_of 59 (take 2 text)) (decimal_of 9 (drop 3 text)) else None

-- the time of day that `HH:MM:SS` or `HH:MM:SS.T` writes, in units of 100 ms
unfoldable pub written_time : List ℕ → Option ℕ
written_time text =
    if nat_le 6 (length text) && (slice_index text 5 == 58) then both 1 (minutes_of (take 5 text)) (seconds_of (drop 6 text)) else None

-- the moment that a date and a time write, with `T` or a space between them
unfoldable pub date_and_time_of : List ℕ → Option ℕ
date_and_time_of text =
    if nat_le 11 (length text) && ((slice_index text 10 == 84) || (slice_index text 10 == 32))
    then both DAY (day_of (take 10 text)) (written_time (drop 11 text)) else None

-- a moment, if it is at most `most`
abbrev pub at_most : ℕ → ℕ → Option ℕ
at_most most at = if nat_le at most then Some at else None

-- the moment that a text writes, at most `most`: a decimal, else a date and a time
abbrev pub moment_of : ℕ → List ℕ → Option ℕ
moment_of most text = option_or (decimal_of most text) (option_and_then (at_most most) (date_and_time_of text))
