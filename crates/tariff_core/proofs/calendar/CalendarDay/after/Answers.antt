use Rattle.std.proofs.Common.{◌≤◌, FitsSigned, w16, arith, refl, rules}
use Rattle.std.proofs.lemmas.Int.{to_z-of_z}
use Rattle.jiff_core.proofs.SignedLemmas.{signed_arith, signed_casts}
use Rattle.tariff_core.proofs.CalendarLemmas.{IsDateOf, date_is, is_dated, is_early, is_undated}
use Rattle.tariff_core.specs.Calendar.{day_after}
use Rattle.tariff_core.proofs.calendar.CalendarDay.after.Goals as goal

pub returns-then-days-gt-LAST_DAY : goal.returns-then-days-gt-LAST_DAY
returns-then-days-gt-LAST_DAY c = rw (is_undated c.args.days (omega (arith, c.if-days-gt-LAST_DAY.true))) refl

pub overflow_cast-result : goal.overflow_cast-result
overflow_cast-result c =
    let few : c.args.days ≤ 2932896 = omega (arith, c.if-days-gt-LAST_DAY.false) in
    let is : IsDateOf c.in-Ok.date (day_after c.args.days) = date_is c.in-Ok.date c.args.days few (omega (arith, signed_casts, few, c.in-Ok.ensures.value)) in
    let fits : FitsSigned w16 c.in-Ok.date.year = omega (arith, signed_arith, c.in-Ok.date.year_in) in
    rw (to_z-of_z w16 c.in-Ok.date.year fits, is.year) (tt, omega (arith, is_early c.args.days few))

pub returns : goal.returns
returns c =
    let few : c.args.days ≤ 2932896 = omega (arith, c.if-days-gt-LAST_DAY.false) in
    let is : IsDateOf c.in-Ok.date (day_after c.args.days) = date_is c.in-Ok.date c.args.days few (omega (arith, signed_casts, few, c.in-Ok.ensures.value)) in
    rw (is_dated c.args.days few, is.year, c.from.ensures, is.month, c.from-2.ensures, is.day) (search rules)
