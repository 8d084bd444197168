-- The columns that are printed of an entry are read back.
use Rattle.std.proofs.Common.{◌≡◌, ℕ, ◌<◌, ◌≤◌, ◌^◌, true, false, Option, Some, None, length, Ok, refl, arith}
use Rattle.std.specs.Prelude.{◌==◌, IfSome}
use Rattle.std.specs.Fmt.{decimal}
use Rattle.std.proofs.lemmas.Bool.Decides.{nat_tests}
use Rattle.std.proofs.lemmas.Fmt.{decimal_nonempty}
use Rattle.account_core.specs.Asked.{Credits, Reserves, Returns, Settles}
use Rattle.account_core.specs.declared.entry.Reply.TheVariants as reply
use Rattle.table_core.specs.Printed.{DecimalsAreRead}
use Rattle.price_core.specs.Rates.{Rates}
use Rattle.price_core.specs.declared.times.TimeInfo.{TimeInfo}
use Rattle.price_core.specs.declared.times.TimeInfo.TheVariants as info
use Rattle.book_texts.specs.Column.{any_number_of, interval_of, moment_column, money_of, optional_moment_of, optional_rate_of, rate_of, step_units_of, units_of}
use Rattle.book_texts.specs.Columns.{in_fourth, operation_of}
use Rattle.book_texts.specs.Fits.{FitsAsked, FitsReport, IsInterval, IsMoment, IsMoney, IsRate, IsTime, IsWide}
use Rattle.run_laws.specs.ReadBack.{IsReadAsOp, OperationsAreRead, RepliesAreRead}
use Rattle.book_texts.specs.Operations.{at_of, first_column, free_of, plan_in, reserve_in, step_column}
use Rattle.book_texts.specs.declared.version.Version.{Version}
use Rattle.book_texts.specs.declared.version.Version.TheVariants as version
use Rattle.book_texts.specs.declared.words.OpWord.TheVariants as op_word
use Rattle.book_texts.specs.declared.words.ReplyWord.TheVariants as reply_word
use Rattle.table_core.specs.Fields.{is_empty_field, number_in_field, number_or_empty}

not_empty : (number : ℕ) → number < 2 ^ 64 → is_empty_field (decimal number) ≡ false
not_empty number small = let some : 0 < length (decimal number) = decimal_nonempty number small in grind (arith, nat_tests)

module _ (reads : DecimalsAreRead) where
  -- ---- columns

  pub number_read : (most number : ℕ) → most < 2 ^ 64 → number ≤ most → number_in_field most (decimal number) ≡ Ok number
  number_read most number small within = rw (reads most number small within) refl

  wide : (number : ℕ) → IsWide number → any_number_of (decimal number) ≡ Ok number
  wide number fits = number_read 18446744073709551615 number (omega arith) fits

  time : (number : ℕ) → IsTime number → units_of (decimal number) ≡ Ok number
  time number fits = number_read 864000 number (omega arith) fits

  pub money_read : (number : ℕ) → IsMoney number → money_of (decimal number) ≡ Ok number
  money_read number fits = number_read 1000000000000000 number (omega arith) fits

  moment_read : (number : ℕ) → IsMoment number → moment_column (decimal number) ≡ Ok number
  moment_read number fits = number_read 2000000000000 number (omega arith) fits

  pub optional_moment_read : (number : Option ℕ) → IfSome number IsMoment → optional_moment_of (number_or_empty number) ≡ Ok number
  optional_moment_read None fits = refl
  optional_moment_read (Some number) fits = rw (not_empty number (omega (arith, fits)), moment_read number fits) refl

  rate : (number : ℕ) → IsRate number → rate_of (decimal number) ≡ Ok number
  rate number fits = number_read 1000000000 number (omega arith) fits

  optional_rate : (number : Option ℕ) → IfSome number IsRate → optional_rate_of (number_or_empty number) ≡ Ok number
  optional_rate None fits = refl
  optional_rate (Some number) fits = rw (not_empty number (omega (arith, fits)), rate number fits) refl

  counted : (number : ℕ) → 1 ≤ number → number == 0 ≡ false
  counted number some = grind (arith, nat_tests)

  interval : (number : Option ℕ) → IfSome number IsInterval → interval_of (number_or_empty number) ≡ Ok number
  interval None fits = refl
  interval (Some number) fits = rw (not_empty number (omega (arith, fits.1)), time number fits.1, counted number fits.0) refl

  step : (number : ℕ) → IsInterval number → step_units_of (decimal number) ≡ Ok number
  step number fits = rw (time number fits.1, counted number fits.0) refl

  -- ---- operations

  settle_read : (version : Version) (call number : ℕ) (report : TimeInfo) → IsWide call → IsWide number → FitsReport report
      → IsReadAsOp (Settles call number report) (operation_of version (Settles call number report))
  settle_read version call number (info.NoSwitch t) call_fits number_fits fits = record {
    word = op_word.SettleNoSwitch;
    known = refl;
    read = rw (time t fits, wide call call_fits, wide number number_fits) refl;
    blank = refl;
  }
  settle_read version call number (info.Switch since between) call_fits number_fits fits = record {
    word = op_word.SettleSwitch;
    known = refl;
    read = rw (time since fits.0, interval between fits.1, wide call call_fits, wide number number_fits) refl;
    blank = refl;
  }

  -- a version from the third on, in which a plan's steps are read as they are
  reserve_read : (version : Version) (call : ℕ) (plan : Rates) (wanted least at : ℕ) → FitsAsked (Reserves call plan wanted least at)
      → free_of version (decimal plan.free) ≡ Ok plan.free → at_of version (decimal at) ≡ Ok at
      → first_column version (in_fourth version plan.first) ≡ Ok plan.first → step_column version (in_fourth version plan.step) ≡ Ok plan.step
      → IsReadAsOp (Reserves call plan wanted least at) (operation_of version (Reserves call plan wanted least at))
  unfolding plan_in reserve_in
  reserve_read version call plan wanted least at fits free moment_is first beyond = record {
    word = op_word.Reserve;
    known = refl;
    read = rw (
      wide call fits.0,
      rate plan.fee fits.1.fee,
      rate plan.before fits.1.first,
      optional_rate plan.after fits.1.second,
      free,
      first,
      beyond,
      time wanted fits.2,
      time least fits.3,
      moment_is,
    ) refl;
    blank = refl;
  }

  pub operations_read : OperationsAreRead
  operations_read version.One asked fits prints = absurd prints
  operations_read version.Two asked fits prints = absurd prints
  operations_read version.Three (Credits amount until) fits prints =
      record { word = op_word.Credit; known = refl; read = rw (money_read amount fits.0, optional_moment_read until fits.1) refl; blank = refl }
  operations_read version.Four (Credits amount until) fits prints =
      record { word = op_word.Credit; known = refl; read = rw (money_read amount fits.0, optional_moment_read until fits.1) refl; blank = refl }
  operations_read version.Three (Reserves call plan wanted least at) fits prints =
      reserve_read version.Three call plan wanted least at fits (time plan.free fits.1.free) (moment_read at fits.4) (rw prints.0 refl) (rw prints.1 refl)
  operations_read version.Four (Reserves call plan wanted least at) fits prints =
      reserve_read version.Four call plan wanted least at fits (time plan.free fits.1.free) (moment_read at fits.4) (time plan.first fits.1.least) (step plan.step fits.1.step)
  operations_read version.Three (Settles call number report) fits prints = settle_read version.Three call number report fits.0 fits.1 fits.2
  operations_read version.Four (Settles call number report) fits prints = settle_read version.Four call number report fits.0 fits.1 fits.2
  operations_read version.Three (Returns call) fits prints = record { word = op_word.Return; known = refl; read = rw (wide call fits) refl; blank = refl }
  operations_read version.Four (Returns call) fits prints = record { word = op_word.Return; known = refl; read = rw (wide call fits) refl; blank = refl }

  -- ---- replies

  pub replies_read : RepliesAreRead
  replies_read (reply.Credited available) fits = record { word = reply_word.Credited; known = refl; read = rw (money_read available fits) refl; blank = refl }
  replies_read (reply.CreditOver available) fits = record { word = reply_word.CreditOver; known = refl; read = rw (money_read available fits) refl; blank = refl }
  replies_read (reply.Granted units true available) fits =
      record { word = reply_word.GrantedLast; known = refl; read = rw (money_read available fits.1, time units fits.0) refl; blank = refl }
  replies_read (reply.Granted units false available) fits =
      record { word = reply_word.GrantedMore; known = refl; read = rw (money_read available fits.1, time units fits.0) refl; blank = refl }
  replies_read (reply.Denied available) fits = record { word = reply_word.Denied; known = refl; read = rw (money_read available fits) refl; blank = refl }
  replies_read (reply.Settled paid available) fits =
      record { word = reply_word.Settled; known = refl; read = rw (money_read available fits.1, money_read paid fits.0) refl; blank = refl }
  replies_read (reply.Forfeit paid available) fits =
      record { word = reply_word.Forfeit; known = refl; read = rw (money_read available fits.1, money_read paid fits.0) refl; blank = refl }
  replies_read (reply.Returned paid available) fits =
      record { word = reply_word.Returned; known = refl; read = rw (money_read available fits.1, money_read paid fits.0) refl; blank = refl }
