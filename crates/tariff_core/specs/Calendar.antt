-- The days of the calendar from 1 January 1970 on. Leap years, and so the days of a month and the days before a date, are those of `jiff`.
use Rattle.std.specs.Prelude.{◌+◌, ◌-◌, ◌&&◌, ℕ, zero, suc, Bool, pos, Option, Some, None, if◌then◌else◌, nat_le, nat_lt}
use Rattle.jiff_core.specs.Calendar.{day_count, days_in_month}
use Rattle.tariff_core.specs.declared.calendar.CalendarDay.{CalendarDay}

-- whether the calendar has a day, in 1970 or later
abbrev pub is_day : ℕ → ℕ → ℕ → Bool
is_day year month day = nat_le 1970 year && nat_le 1 month && nat_le month 12 && nat_le 1 day && nat_le day (days_in_month (pos year) month)

-- the days from 1 January 1970 to a day
unfoldable pub days_to : ℕ → ℕ → ℕ → ℕ
days_to year month day = day_count (pos year) month day - day_count (pos 1970) 1 1

-- the number of a day, if the calendar has it
abbrev pub day_at : ℕ → ℕ → ℕ → Option ℕ
day_at year month day = if is_day year month day then Some (days_to year month day) else None

-- the day after a day: the next of its month, else the first of the next month, which is January at the end of a year
abbrev pub next_day : CalendarDay → CalendarDay
next_day it =
    if nat_lt it.day (days_in_month (pos it.year) it.month) then record { year = it.year; month = it.month; day = it.day + 1 } else
    if nat_lt it.month 12 then record { year = it.year; month = it.month + 1; day = 1 } else record { year = it.year + 1; month = 1; day = 1 }

-- the day so many days after 1 January 1970
unfoldable pub day_after : ℕ → CalendarDay
day_after zero = record { year = 1970; month = 1; day = 1 }
day_after (suc days) = next_day (day_after days)

-- the same, up to the end of the year 9999
abbrev pub dated : ℕ → Option CalendarDay
dated days = if nat_le (day_after days).year 9999 then Some (day_after days) else None
