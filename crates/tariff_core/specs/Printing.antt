-- A moment as it is printed.
use Rattle.std.specs.Prelude.{◌/◌, ◌%◌, ℕ, List, [], ◌++◌, codes, Option, Some, None}
use Rattle.std.specs.Fmt.{decimal}
use Rattle.price_core.specs.declared.times.TheConstants.{DAY}
use Rattle.tariff_core.specs.Calendar.{dated}
use Rattle.tariff_core.specs.declared.calendar.CalendarDay.{CalendarDay}
use Rattle.tariff_core.specs.declared.clock.Clock.{Clock}
use Rattle.tariff_core.specs.declared.clock.Clock.TheVariants as clock

-- a number below 100 in two digits
abbrev pub two_digits : ℕ → List ℕ
two_digits number = decimal (number / 10) ++ decimal (number % 10)

-- a day as `YYYY-MM-DD`
abbrev pub day_text : CalendarDay → List ℕ
day_text it =
    two_digits (it.year / 100) ++ (two_digits (it.year % 100) ++ (codes "-" ++ (two_digits it.month ++ (codes "-" ++ two_digits it.day))))

-- a time of day as `HH:MM`
abbrev pub time_text : ℕ → List ℕ
time_text time = two_digits (time / 36000) ++ (codes ":" ++ two_digits ((time / 600) % 60))

-- the seconds of a time of day as `SS.T`
abbrev pub seconds_text : ℕ → List ℕ
seconds_text time = two_digits ((time / 10) % 60) ++ (codes "." ++ decimal (time % 10))

-- a day and a time of day as `YYYY-MM-DDTHH:MM:SS.T`
abbrev pub date_and_time_text : CalendarDay → ℕ → List ℕ
date_and_time_text day time = day_text day ++ (codes "T" ++ (time_text time ++ (codes ":" ++ seconds_text time)))

-- a moment by its day, where that has a date of four digits a year; else its number
abbrev pub dated_text : Option CalendarDay → ℕ → List ℕ
dated_text (Some day) at = date_and_time_text day (at % DAY)
dated_text None at = decimal at

-- a moment, as a clock prints it
abbrev pub moment_text : Clock → ℕ → List ℕ
moment_text clock.Digits at = decimal at
moment_text clock.Dates at = dated_text (dated (at / DAY)) at

-- the same, and nothing where there is no moment
abbrev pub moment_or_empty : Clock → Option ℕ → List ℕ
moment_or_empty by None = []
moment_or_empty by (Some at) = moment_text by at
