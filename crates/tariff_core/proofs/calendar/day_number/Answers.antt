use Rattle.std.proofs.Common.{◌≡◌, pos, FitsSigned, w32, to_z, of_z, arith, sym, ◌∙◌}
use Rattle.std.proofs.lemmas.Int.{to_z-of_z}
use Rattle.jiff_core.proofs.SignedLemmas.{signed_arith, signed_casts}
use Rattle.tariff_core.proofs.CalendarLemmas.{IsKnown, known}
use Rattle.tariff_core.specs.Calendar.{days_to}
use Rattle.tariff_core.proofs.calendar.day_number.Goals as goal

-- the date is of these numbers
date_known : (c : goal.After-to_unix_epoch_day) → IsKnown c.in-Ok.date c.args.year c.args.month c.args.day
date_known c =
    let is = c.in-Ok.ensures.value in
    known c.in-Ok.date c.args.year c.args.month c.args.day c.if-year-lt-FIRST_YEAR.false
    (omega (arith, signed_casts, is.0, c.requires.year)) (omega (arith, signed_casts, is.1, c.requires.month)) (omega (arith, signed_casts, is.2, c.requires.day))

-- its number is one of 64 bits
cast_is : (c : goal.After-to_unix_epoch_day) → to_z w32 (of_z w32 c.to_unix_epoch_day.result) ≡ pos (days_to c.args.year c.args.month c.args.day)
cast_is c =
    let fits : FitsSigned w32 c.to_unix_epoch_day.result = omega (arith, signed_arith, c.to_unix_epoch_day.ensures.bound) in
    to_z-of_z w32 c.to_unix_epoch_day.result fits ∙ c.to_unix_epoch_day.ensures.value ∙ (date_known c).number

pub overflow_cast-result : goal.overflow_cast-result
overflow_cast-result c = rw (cast_is c) (tt, omega (arith, (date_known c).bound))

pub returns-clause-value : goal.returns-clause-value
returns-clause-value c = rw (cast_is c) (sym (date_known c).found)

pub returns-clause-within : goal.returns-clause-within
returns-clause-within c = rw (cast_is c) (date_known c).bound
