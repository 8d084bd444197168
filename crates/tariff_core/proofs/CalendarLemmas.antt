-- The day after a day has the next number, so that each day has its own.
use Rattle.std.proofs.Common.{◌≡◌, ℕ, zero, suc, ◌+◌, ◌-◌, ◌<◌, ◌≤◌, Bool, true, false, Some, refl, sym, ap, subst, ◌∙◌, arith, pos, ◌+ℤ◌}
use Rattle.std.specs.Prelude.{nat_le, nat_lt, if◌then◌else◌}
use Rattle.std.specs.Int.{IsInRange}
use Rattle.std.proofs.lemmas.Bool.Decides.{nat_tests}
use Rattle.jiff_core.specs.Calendar.{day_count, days_in_month}
use Rattle.jiff_core.specs.Date.{epoch_day}
use Rattle.jiff_core.specs.declared.civil.date.Date.{Date}
use Rattle.jiff_core.proofs.CalendarLemmas.{day_count-day, day_count-day_of_year, day_count-end, day_count-epoch, day_count-last_of_year, day_count-later_year, day_count-next_month, day_count-next_year, day_count_bounds, days_from_civil-day_count, days_in_month_bounds}
use Rattle.jiff_core.proofs.DateLemmas.{epoch_day_injective}
use Rattle.jiff_core.proofs.SignedLemmas.{signed_arith}
use Rattle.tariff_core.specs.Calendar.{day_after, day_at, days_to, next_day}
use Rattle.tariff_core.specs.declared.calendar.CalendarDay.{CalendarDay}

pub le_tested : (a b : ℕ) → a ≤ b → nat_le a b ≡ true
le_tested a b le = grind (arith, nat_tests)

-- the calendar has the day, in 1970 or later
pub record IsProper (it : CalendarDay) : Type 0 where
  pub year : 1970 ≤ it.year
  pub month : IsInRange 1 12 it.month
  pub day : IsInRange 1 (days_in_month (pos it.year) it.month) it.day

-- and so many days lie before it, from the year -10000 on
pub record IsNumbered (it : CalendarDay) (count : ℕ) : Type 0 where
  pub proper : IsProper it
  pub counted : day_count (pos it.year) it.month it.day ≡ count

module _ (it : CalendarDay) (count : ℕ) (is : IsNumbered it count) where
  abbrev length : ℕ
  length = days_in_month (pos it.year) it.month

  within_month : it.day < length → IsNumbered (record { year = it.year; month = it.month; day = it.day + 1 }) (count + 1)
  within_month more = record {
    proper = record { year = is.proper.year; month = is.proper.month; day = (omega arith, omega (arith, more)) };
    counted = omega (arith, is.counted, day_count-day (pos it.year) it.month it.day (it.day + 1) is.proper.day.0 (omega arith));
  }

  next_month : it.day ≡ length → it.month < 12 → IsNumbered (record { year = it.year; month = it.month + 1; day = 1 }) (count + 1)
  next_month last more = record {
    proper = record {
      year = is.proper.year;
      month = (omega arith, omega (arith, more));
      day = (omega arith, omega (arith, days_in_month_bounds (pos it.year) (it.month + 1)));
    };
    counted = omega (arith, last, is.counted, day_count-day (pos it.year) it.month it.day 1 is.proper.day.0 (omega arith), day_count-next_month (pos it.year) it.month is.proper.month.0);
  }

  next_year : it.day ≡ length → it.month ≡ 12 → IsNumbered (record { year = it.year + 1; month = 1; day = 1 }) (count + 1)
  next_year last december =
      let whole : it.day ≡ 31 = last ∙ ap (days_in_month (pos it.year)) december in
      let at_end : day_count (pos it.year) 12 31 ≡ count = ap (λ m. day_count (pos it.year) m 31) (sym december) ∙ ap (day_count (pos it.year) it.month) (sym whole) ∙ is.counted in
      let following : pos (it.year + 1) ≡ pos it.year +ℤ pos 1 = omega (arith, signed_arith) in
      record {
        proper = record {
          year = omega (arith, is.proper.year);
          month = (omega arith, omega arith);
          day = (omega arith, omega (arith, days_in_month_bounds (pos (it.year + 1)) 1));
        };
        counted = omega (arith, at_end, day_count-last_of_year (pos it.year), day_count-next_year (pos it.year) (pos (it.year + 1)) (omega (arith, signed_arith)) following);
      }

  next_numbered : IsNumbered (next_day it) (count + 1)
  next_numbered = by_day (nat_lt it.day length) refl
    where
      by_month : (more : Bool) → nat_lt it.month 12 ≡ more → it.day ≡ length
          → IsNumbered (if more then record { year = it.year; month = it.month + 1; day = 1 } else record { year = it.year + 1; month = 1; day = 1 }) (count + 1)
      by_month true tested last = let more : it.month < 12 = grind (arith, nat_tests) in next_month last more
      by_month false tested last = let most : 12 ≤ it.month = grind (arith, nat_tests) in next_year last (omega (arith, most, is.proper.month.1))

      by_day : (more : Bool) → nat_lt it.day length ≡ more
          → IsNumbered (if more then record { year = it.year; month = it.month; day = it.day + 1 } else
          if nat_lt it.month 12 then record { year = it.year; month = it.month + 1; day = 1 } else record { year = it.year + 1; month = 1; day = 1 }) (count + 1)
      by_day true tested = let more : it.day < length = grind (arith, nat_tests) in within_month more
      by_day false tested = let most : length ≤ it.day = grind (arith, nat_tests) in by_month (nat_lt it.month 12) refl (omega (arith, most, is.proper.day.1))

-- the number of each day
pub numbered : (days : ℕ) → IsNumbered (day_after days) (4371953 + days)
unfolding day_after
numbered zero = record {
  proper = record { year = omega arith; month = (omega arith, omega arith); day = (omega arith, omega arith) };
  counted = day_count-epoch;
}
numbered (suc days) =
    let more : 4371953 + days + 1 ≡ 4371953 + suc days = omega arith in
    rw more at (next_numbered (day_after days) (4371953 + days) (numbered days))

-- a day up to the end of the year 9999 has a number below that of the next day
pub early : (it : CalendarDay) (count : ℕ) → IsNumbered it count → it.year ≤ 9999 → count ≤ 7304849
early it count is small =
    omega (arith, is.counted, (day_count_bounds (pos it.year) it.month it.day ((omega (arith, signed_arith), omega (arith, signed_arith, small)), is.proper.month, is.proper.day)).1)

-- and one behind it has no lower number
pub late : (it : CalendarDay) (count : ℕ) → IsNumbered it count → 9999 < it.year → 7304850 ≤ count
late it count is large =
    omega (
      arith,
      is.counted,
      day_count-day_of_year (pos it.year) it.month it.day is.proper.day.0,
      is.proper.day.0,
      day_count-later_year (pos 9999) (pos it.year) (omega (arith, signed_arith)) (omega (arith, signed_arith)),
      day_count-next_year (pos 9999) (pos 10000) (omega (arith, signed_arith)) refl,
      day_count-end,
    )

-- the days up to the end of the year 9999
pub is_dated : (days : ℕ) → days ≤ 2932896 → nat_le (day_after days).year 9999 ≡ true
is_dated days few = by_year (nat_le (day_after days).year 9999) refl
  where
    by_year : (small : Bool) → nat_le (day_after days).year 9999 ≡ small → small ≡ true
    by_year true tested = refl
    by_year false tested =
        let large : 9999 < (day_after days).year = grind (arith, nat_tests) in
        absurd (omega (arith, few, late (day_after days) (4371953 + days) (numbered days) large))

pub is_undated : (days : ℕ) → 2932896 < days → nat_le (day_after days).year 9999 ≡ false
is_undated days many = by_year (nat_le (day_after days).year 9999) refl
  where
    by_year : (small : Bool) → nat_le (day_after days).year 9999 ≡ small → small ≡ false
    by_year false tested = refl
    by_year true tested =
        let few : (day_after days).year ≤ 9999 = grind (arith, nat_tests) in
        absurd (omega (arith, many, early (day_after days) (4371953 + days) (numbered days) few))

-- ---- the dates of `jiff`

year_in_range : (it : CalendarDay) (count : ℕ) → IsNumbered it count → count ≤ 7304849 → it.year ≤ 9999
year_in_range it count is small = by_test (nat_le it.year 9999) refl
  where
    by_test : (few : Bool) → nat_le it.year 9999 ≡ few → it.year ≤ 9999
    by_test true tested = grind (arith, nat_tests)
    by_test false tested =
        let large : 9999 < it.year = grind (arith, nat_tests) in
        absurd (omega (arith, small, late it count is large))

pub is_early : (days : ℕ) → days ≤ 2932896 → (day_after days).year ≤ 9999
is_early days few = year_in_range (day_after days) (4371953 + days) (numbered days) (omega (arith, few))

-- a date of this number of days is the day so many days after 1 January 1970
pub record IsDateOf (date : Date) (it : CalendarDay) : Type 0 where
  pub year : date.year ≡ pos it.year
  pub month : date.month ≡ it.month
  pub day : date.day ≡ it.day

pub date_is : (date : Date) (days : ℕ) → days ≤ 2932896 → epoch_day date ≡ pos days → IsDateOf date (day_after days)
date_is date days few is =
    let same = epoch_day_injective date own (is ∙ sym counted) in
    record { year = same.0; month = same.1; day = same.2 }
  where
    it : CalendarDay
    it = day_after days

    small : it.year ≤ 9999
    small = is_early days few

    own : Date
    own = record {
      year = pos it.year;
      month = it.month;
      day = it.day;
      year_in = (omega (arith, signed_arith), omega (arith, signed_arith, small));
      month_in = (numbered days).proper.month;
      day_in = (numbered days).proper.day;
    }

    counted : epoch_day own ≡ pos days
    counted = omega (arith, signed_arith, days_from_civil-day_count (pos it.year) it.month it.day, (numbered days).counted)

-- ---- the number of a date

-- no day from 1970 on lies before 1 January 1970
from_start : (year month day : ℕ) → 1970 ≤ year → 1 ≤ day → 4371953 ≤ day_count (pos year) month day
from_start year month day late some = by_test (nat_lt 1970 year) refl
  where
    by_test : (later : Bool) → nat_lt 1970 year ≡ later → 4371953 ≤ day_count (pos year) month day
    by_test true tested =
        let later : 1970 < year = grind (arith, nat_tests) in
        omega (
          arith,
          some,
          day_count-epoch,
          day_count-day_of_year (pos year) month day some,
          day_count-later_year (pos 1970) (pos year) (omega (arith, signed_arith)) (omega (arith, signed_arith, later)),
        )
    by_test false tested =
        let most : year ≤ 1970 = grind (arith, nat_tests) in
        let same : year ≡ 1970 = omega (arith, late, most) in
        rw same (omega (arith, some, day_count-epoch, day_count-day_of_year (pos 1970) month day some))

-- the calendar has a date from 1970 on, and this is its number
pub record IsKnown (date : Date) (year month day : ℕ) : Type 0 where
  pub number : epoch_day date ≡ pos (days_to year month day)
  pub bound : days_to year month day ≤ 2932896
  pub found : day_at year month day ≡ Some (days_to year month day)

pub known : (date : Date) (year month day : ℕ) → 1970 ≤ year → date.year ≡ pos year → date.month ≡ month → date.day ≡ day → IsKnown date year month day
unfolding days_to
known date year month day late of_year of_month of_day = record { number = number; bound = bound; found = found }
  where
    months : IsInRange 1 12 month
    months = subst (IsInRange 1 12) of_month date.month_in

    days : IsInRange 1 (days_in_month (pos year) month) day
    days = rw (of_year, of_month, of_day) at date.day_in

    years : year ≤ 9999
    years = omega (arith, signed_arith, of_year, date.year_in)

    start : 4371953 ≤ day_count (pos year) month day
    start = from_start year month day late days.0

    bound : day_count (pos year) month day - day_count (pos 1970) 1 1 ≤ 2932896
    bound =
        omega (arith, day_count-epoch, (day_count_bounds (pos year) month day ((omega (arith, signed_arith), omega (arith, signed_arith, years)), months, days)).1)

    number : epoch_day date ≡ pos (day_count (pos year) month day - day_count (pos 1970) 1 1)
    number = rw (of_year, of_month, of_day) (omega (arith, signed_arith, start, day_count-epoch, days_from_civil-day_count (pos year) month day))

    found : day_at year month day ≡ Some (day_count (pos year) month day - day_count (pos 1970) 1 1)
    found =
        rw (
          le_tested 1970 year late,
          le_tested 1 month months.0,
          le_tested month 12 months.1,
          le_tested 1 day days.0,
          le_tested day (days_in_month (pos year) month) days.1,
        ) refl
