-- A date and a time that are printed are read as the moment that they are of.
use Rattle.std.proofs.Common.{◌≡◌, ℕ, ◌+◌, ◌-◌, ◌*◌, ◌/◌, ◌%◌, ◌<◌, ◌≤◌, ◌^◌, true, false, List, [], ◌∷◌, length, Some, None, refl, arith, pos}
use Rattle.std.specs.Prelude.{nat_le, slice_index, if◌then◌else◌}
use Rattle.std.specs.Char.{digit_value, is_ascii_digit}
use Rattle.std.specs.Fmt.{decimal}
use Rattle.std.proofs.lemmas.Bool.Decides.{nat_tests}
use Rattle.std.specs.Str.Parse.{AllDigits}
use Rattle.std.proofs.lemmas.Fmt.{decimal_digit, decimal_is_IsNumeral}
use Rattle.std.proofs.lemmas.Str.Parse.{digit_from_value}
use Rattle.csv.specs.Writing.{default_writer, needs_byte}
use Rattle.jiff_core.specs.Calendar.{day_count, days_in_month}
use Rattle.jiff_core.proofs.CalendarLemmas.{day_count-epoch, days_in_month_bounds}
use Rattle.table_core.specs.Decimals.{decimal_of}
use Rattle.table_core.specs.Printed.{DecimalsArePlain, DecimalsAreRead, IsPlain}
use Rattle.tariff_core.specs.TariffTable.{time_of as minutes_of}
use Rattle.tariff_core.specs.Calendar.{dated, day_after, day_at, days_to}
use Rattle.tariff_core.specs.MomentLaws.{IsPlainMoment, MomentsArePlain, MomentsAreRead}
use Rattle.tariff_core.specs.Printing.{date_and_time_text, dated_text, two_digits}
use Rattle.tariff_core.specs.Reading.{date_and_time_of, day_of, moment_of, seconds_of, written_time}
use Rattle.tariff_core.specs.declared.calendar.CalendarDay.{CalendarDay}
use Rattle.tariff_core.specs.declared.clock.Clock.TheVariants as clock
use Rattle.tariff_core.proofs.CalendarLemmas.{IsProper, le_tested, numbered}

-- ---- digits

two : (n : ℕ) → n < 100 → two_digits n ≡ (48 + n / 10) ∷ (48 + n % 10) ∷ []
two n small = rw (decimal_digit (n / 10) (omega (arith, small)), decimal_digit (n % 10) (omega arith)) refl

tested : (d : ℕ) → d < 10 → is_ascii_digit (48 + d) ≡ true
tested d small = grind (arith, nat_tests)

valued : (d : ℕ) → d < 10 → digit_value (48 + d) ≡ d
valued d small = grind (arith, nat_tests)

bare : (d : ℕ) → d < 10 → needs_byte default_writer (48 + d) ≡ false
bare d small = grind (arith, nat_tests)

one_read : (most d : ℕ) → d < 10 → d ≤ most → decimal_of most ((48 + d) ∷ []) ≡ Some d
unfolding decimal_of
one_read most d small within =
    let value : 0 * 10 + d ≡ d = omega arith in
    rw (tested d small, valued d small, value, le_tested d most within) refl

two_read : (most n : ℕ) → n < 100 → n ≤ most → decimal_of most ((48 + n / 10) ∷ (48 + n % 10) ∷ []) ≡ Some n
unfolding decimal_of
two_read most n small within =
    let first : n / 10 < 10 = omega (arith, small) in
    let second : n % 10 < 10 = omega arith in
    let value : (0 * 10 + n / 10) * 10 + n % 10 ≡ n = omega arith in
    rw (tested (n / 10) first, tested (n % 10) second, valued (n / 10) first, valued (n % 10) second, value, le_tested n most within) refl

four_read : (most n : ℕ) → n < 10000 → n ≤ most
    → decimal_of most ((48 + n / 100 / 10) ∷ (48 + n / 100 % 10) ∷ (48 + n % 100 / 10) ∷ (48 + n % 100 % 10) ∷ []) ≡ Some n
unfolding decimal_of
four_read most n small within =
    let a : n / 100 / 10 < 10 = omega (arith, small) in
    let b : n / 100 % 10 < 10 = omega arith in
    let c : n % 100 / 10 < 10 = omega arith in
    let d : n % 100 % 10 < 10 = omega arith in
    let value : (((0 * 10 + n / 100 / 10) * 10 + n / 100 % 10) * 10 + n % 100 / 10) * 10 + n % 100 % 10 ≡ n = omega arith in
    rw (
      tested (n / 100 / 10) a,
      tested (n / 100 % 10) b,
      tested (n % 100 / 10) c,
      tested (n % 100 % 10) d,
      valued (n / 100 / 10) a,
      valued (n / 100 % 10) b,
      valued (n % 100 / 10) c,
      valued (n % 100 % 10) d,
      value,
      le_tested n most within,
    ) refl

-- ---- a date and a time

module _ (days time : ℕ) (small : (day_after days).year ≤ 9999) (in_day : time < 864000) where
  abbrev it : CalendarDay
  it = day_after days

  proper : IsProper it
  proper = (numbered days).proper

  day_bound : it.day ≤ 31
  day_bound = omega (arith, proper.day.1, (days_in_month_bounds (pos it.year) it.month).0)

  number_read : day_at it.year it.month it.day ≡ Some days
  unfolding days_to
  number_read =
      let number : day_count (pos it.year) it.month it.day - day_count (pos 1970) 1 1 ≡ days = omega (arith, (numbered days).counted, day_count-epoch) in
      rw (
        le_tested 1970 it.year proper.year,
        le_tested 1 it.month proper.month.0,
        le_tested it.month 12 proper.month.1,
        le_tested 1 it.day proper.day.0,
        le_tested it.day (days_in_month (pos it.year) it.month) proper.day.1,
        number,
      ) refl

  pub date_and_time_read : date_and_time_of (date_and_time_text it time) ≡ Some (days * 864000 + time)
  unfolding date_and_time_of day_of written_time seconds_of minutes_of
  date_and_time_read =
      let units : (time / 36000 * 60 + time / 600 % 60) * 600 * 1 + (time / 10 % 60 * 10 + time % 10) ≡ time = omega (arith, in_day) in
      rw (
        two (it.year / 100) (omega (arith, small)),
        two (it.year % 100) (omega arith),
        two it.month (omega (arith, proper.month.1)),
        two it.day (omega (arith, day_bound)),
        two (time / 36000) (omega (arith, in_day)),
        two (time / 600 % 60) (omega arith),
        two (time / 10 % 60) (omega arith),
        decimal_digit (time % 10) (omega arith),
        four_read 9999 it.year (omega (arith, small)) small,
        two_read 12 it.month (omega (arith, proper.month.1)) proper.month.1,
        two_read 31 it.day (omega (arith, day_bound)) day_bound,
        two_read 23 (time / 36000) (omega (arith, in_day)) (omega (arith, in_day)),
        two_read 59 (time / 600 % 60) (omega arith) (omega arith),
        two_read 59 (time / 10 % 60) (omega arith) (omega arith),
        one_read 9 (time % 10) (omega arith) (omega arith),
        number_read,
        units,
      ) refl

  -- a text of 21 bytes is no decimal
  pub no_decimal : (most : ℕ) → decimal_of most (date_and_time_text it time) ≡ None
  unfolding decimal_of
  no_decimal most =
      rw (
        two (it.year / 100) (omega (arith, small)),
        two (it.year % 100) (omega arith),
        two it.month (omega (arith, proper.month.1)),
        two it.day (omega (arith, day_bound)),
        two (time / 36000) (omega (arith, in_day)),
        two (time / 600 % 60) (omega arith),
        two (time / 10 % 60) (omega arith),
        decimal_digit (time % 10) (omega arith),
      ) refl

  first_digit : is_ascii_digit (slice_index (date_and_time_text it time) 0) ≡ true
  first_digit = rw (two (it.year / 100) (omega (arith, small))) (tested (it.year / 100 / 10) (omega (arith, small)))

  bytes_plain : IsPlain (date_and_time_text it time)
  bytes_plain =
      rw (
        two (it.year / 100) (omega (arith, small)),
        two (it.year % 100) (omega arith),
        two it.month (omega (arith, proper.month.1)),
        two it.day (omega (arith, day_bound)),
        two (time / 36000) (omega (arith, in_day)),
        two (time / 600 % 60) (omega arith),
        two (time / 10 % 60) (omega arith),
        decimal_digit (time % 10) (omega arith),
        bare (it.year / 100 / 10) (omega (arith, small)),
        bare (it.year / 100 % 10) (omega arith),
        bare (it.year % 100 / 10) (omega arith),
        bare (it.year % 100 % 10) (omega arith),
        bare (it.month / 10) (omega (arith, proper.month.1)),
        bare (it.month % 10) (omega arith),
        bare (it.day / 10) (omega (arith, day_bound)),
        bare (it.day % 10) (omega arith),
        bare (time / 36000 / 10) (omega (arith, in_day)),
        bare (time / 36000 % 10) (omega arith),
        bare (time / 600 % 60 / 10) (omega arith),
        bare (time / 600 % 60 % 10) (omega arith),
        bare (time / 10 % 60 / 10) (omega arith),
        bare (time / 10 % 60 % 10) (omega arith),
        bare (time % 10) (omega arith),
      ) refl

  pub date_and_time_plain : IsPlainMoment (date_and_time_text it time)
  date_and_time_plain = record { plain = bytes_plain; digit = first_digit }

-- ---- moments

module _ (reads : DecimalsAreRead) where
  dated_read : (most at : ℕ) → most < 2 ^ 64 → at ≤ most → moment_of most (dated_text (dated (at / 864000)) at) ≡ Some at
  dated_read most at small within = by_year (nat_le (day_after (at / 864000)).year 9999) refl
    where
      by_year : (early : _) → nat_le (day_after (at / 864000)).year 9999 ≡ early
          → moment_of most (dated_text (if early then Some (day_after (at / 864000)) else None) at) ≡ Some at
      by_year true is =
          let few : (day_after (at / 864000)).year ≤ 9999 = grind (arith, nat_tests) in
          let whole : at / 864000 * 864000 + at % 864000 ≡ at = omega arith in
          rw (
            no_decimal (at / 864000) (at % 864000) few (omega arith) most,
            date_and_time_read (at / 864000) (at % 864000) few (omega arith),
            whole,
            le_tested at most within,
          ) refl
      by_year false is = rw (reads most at small within) refl

  pub moments_read : MomentsAreRead
  moments_read clock.Digits most at small within = rw (reads most at small within) refl
  moments_read clock.Dates most at small within = dated_read most at small within

first_tested : (text : List ℕ) → 0 < length text → AllDigits 10 text → is_ascii_digit (slice_index text 0) ≡ true
first_tested [] some digits = absurd (omega (arith, some))
first_tested (c ∷ text) some digits = let range = digit_from_value c digits.0 in grind (arith, nat_tests)

module _ (plain : DecimalsArePlain) where
  decimal_plain : (at : ℕ) → at < 2 ^ 64 → IsPlainMoment (decimal at)
  decimal_plain at small =
      let numeral = (decimal_is_IsNumeral at small).0 in
      record { plain = plain at small; digit = first_tested (decimal at) (omega (arith, numeral.0)) numeral.1 }

  pub moments_plain : MomentsArePlain
  moments_plain clock.Digits at small = decimal_plain at small
  moments_plain clock.Dates at small = by_year (nat_le (day_after (at / 864000)).year 9999) refl
    where
      by_year : (early : _) → nat_le (day_after (at / 864000)).year 9999 ≡ early
          → IsPlainMoment (dated_text (if early then Some (day_after (at / 864000)) else None) at)
      by_year true is =
          let few : (day_after (at / 864000)).year ≤ 9999 = grind (arith, nat_tests) in
          date_and_time_plain (at / 864000) (at % 864000) few (omega arith)
      by_year false is = decimal_plain at small
