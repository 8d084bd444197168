-- The columns that a trace prints of a post are read as that post.
use Rattle.std.proofs.Common.{◌≡◌, ℕ, ◌<◌, ◌≤◌, ◌^◌, Bool, true, false, Option, Some, None, List, [], ◌∷◌, length, Ok, refl, arith}
use Rattle.std.specs.Prelude.{◌==◌, IfSome}
use Rattle.std.specs.Fmt.{decimal}
use Rattle.std.proofs.lemmas.Bool.Decides.{nat_tests}
use Rattle.std.proofs.lemmas.Fmt.{decimal_nonempty}
use Rattle.cap_values.specs.declared.event.Event.{Event}
use Rattle.cap_values.specs.declared.event.Event.TheVariants as event
use Rattle.cap_values.specs.declared.leg.Leg.{Leg}
use Rattle.cap_values.specs.declared.leg.Leg.TheVariants as leg
use Rattle.cap_values.specs.declared.message.SsfMsg.TheVariants as message
use Rattle.cap_values.specs.declared.mode.Mode.{Mode}
use Rattle.cap_values.specs.declared.mode.Mode.TheVariants as mode
use Rattle.book_texts.specs.Fits.{IsInterval, IsMoment, IsWide}
use Rattle.live_recovery.specs.Posts.{FitsPost, message_of_post}
use Rattle.run_texts.specs.Messages.{event_message_in, interval_in, leg_in, message_in, mode_in, report_state_in}
use Rattle.tariff_core.specs.MomentLaws.{MomentsAreRead}
use Rattle.tariff_core.specs.Printing.{moment_or_empty, moment_text}
use Rattle.tariff_core.specs.Reading.{date_and_time_of, moment_of}
use Rattle.tariff_core.specs.declared.clock.Clock.{Clock}
use Rattle.run_texts.specs.Setups.{until_in}
use Rattle.run_texts.specs.Said.{Said, event_word, leg_number, mode_word, post_said, state_word}
use Rattle.run_texts.specs.Tables.{call_of_post, sender_of}
use Rattle.run_values.specs.declared.post.Body.{Body}
use Rattle.run_values.specs.declared.post.Body.TheVariants as body
use Rattle.table_core.specs.Decimals.{decimal_of}
use Rattle.table_core.specs.Fields.{field_in, number_or_empty}
use Rattle.table_core.specs.Printed.{DecimalsAreRead}
use Rattle.table_core.specs.Rows.{Fields}
use Rattle.price_core.specs.declared.times.TimeInfo.TheVariants as info

-- the fields of a row
abbrev pub row_fields : List ℕ → ℕ → Option ℕ → List ℕ → Said → Fields
row_fields moment number call from said =
    moment ∷ decimal number ∷ number_or_empty call ∷ from ∷ said.what ∷ said.x1 ∷ said.x2 ∷ said.x3 ∷ said.x4 ∷ []

-- those of a post, whose moments a clock has printed
abbrev pub post_fields : Clock → ℕ → ℕ × Body → Fields
post_fields clock number post = row_fields (moment_text clock post.0) number (call_of_post post.1) (sender_of post.1) (post_said clock post.1)

-- ---- words

event_read : (fields : Fields) (e : Event) → field_in fields 5 ≡ event_word e → event_message_in fields ≡ Ok e
event_read fields event.CollectedInfo is = rw is refl
event_read fields event.RouteSelectFailure is = rw is refl
event_read fields event.CalledPartyBusy is = rw is refl
event_read fields event.NoAnswer is = rw is refl
event_read fields event.Answer is = rw is refl
event_read fields event.Disconnect is = rw is refl
event_read fields event.Abandon is = rw is refl

pub mode_read : (fields : Fields) (m : Mode) → field_in fields 7 ≡ mode_word m → mode_in fields ≡ Ok m
mode_read fields mode.Interrupted is = rw is refl
mode_read fields mode.NotifyAndContinue is = rw is refl
mode_read fields mode.Transparent is = rw is refl

state_read : (fields : Fields) (active : Bool) → field_in fields 5 ≡ state_word active → report_state_in fields ≡ Ok active
state_read fields true is = rw is refl
state_read fields false is = rw is refl

-- ---- numbers

not_empty : (number : ℕ) → number < 2 ^ 64 → length (decimal number) == 0 ≡ false
not_empty number small = let some : 0 < length (decimal number) = decimal_nonempty number small in grind (arith, nat_tests)

counted : (number : ℕ) → 1 ≤ number → number == 0 ≡ false
counted number some = grind (arith, nat_tests)

-- what is read as a moment is not empty
not_blank : (most at : ℕ) (text : List ℕ) → moment_of most text ≡ Some at → length text == 0 ≡ false
unfolding decimal_of date_and_time_of
not_blank most at [] is = absurd (cc)
not_blank most at (c ∷ text) is = counted (length (c ∷ text)) (omega arith)

module _ (reads : DecimalsAreRead) (moments : MomentsAreRead) where
  until_read : (clock : Clock) (fields : Fields) (until : Option ℕ) → field_in fields 7 ≡ moment_or_empty clock until → IfSome until (λ it. it ≤ 1000000000000)
      → until_in fields 7 ≡ Ok until
  until_read clock fields None is within = rw is refl
  until_read clock fields (Some at) is within =
      let read = moments clock 1000000000000 at (omega arith) within in
      rw (is, not_blank 1000000000000 at (moment_text clock at) read, read) refl

  leg_read : (fields : Fields) (l : Option Leg) → field_in fields 6 ≡ number_or_empty (leg_number l) → leg_in fields ≡ Ok (leg_number l)
  leg_read fields None is = rw is refl
  leg_read fields (Some leg.One) is = rw (is, not_empty 1 (omega arith), reads 2 1 (omega arith) (omega arith)) refl
  leg_read fields (Some leg.Two) is = rw (is, not_empty 2 (omega arith), reads 2 2 (omega arith) (omega arith)) refl

  interval_read : (fields : Fields) (interval : Option ℕ) → field_in fields 8 ≡ number_or_empty interval → IfSome interval IsInterval
      → interval_in fields ≡ Ok interval
  interval_read fields None is fits = rw is refl
  interval_read fields (Some number) is fits =
      rw (is, not_empty number (omega (arith, fits.1)), reads 864000 number (omega arith) fits.1, counted number fits.0) refl

  -- ---- posts

  module _ (clock : Clock) (number at : ℕ) (number_fits : IsWide number) (at_fits : IsMoment at) where
    pub post_read : (b : Body) → FitsPost number (at, b) → message_in (post_fields clock number (at, b)) ≡ Ok (message_of_post number (at, b))
    post_read (body.Ssf call (message.InitialDp inner calling called)) fits =
        rw (
          moments clock 2000000000000 at (omega arith) at_fits,
          not_empty number (omega (arith, number_fits)),
          reads 18446744073709551615 number (omega arith) number_fits,
          reads 18446744073709551615 call (omega arith) fits.body.0,
          calling.in_range,
          called.in_range,
        ) refl
    post_read (body.Ssf call (message.EventReport e l m)) fits =
        rw (
          event_read (post_fields clock number (at, body.Ssf call (message.EventReport e l m))) e refl,
          mode_read (post_fields clock number (at, body.Ssf call (message.EventReport e l m))) m refl,
          moments clock 2000000000000 at (omega arith) at_fits,
          not_empty number (omega (arith, number_fits)),
          reads 18446744073709551615 number (omega arith) number_fits,
          reads 18446744073709551615 call (omega arith) fits.body.0,
          leg_read (post_fields clock number (at, body.Ssf call (message.EventReport e l m))) l refl,
        ) refl
    post_read (body.Ssf call (message.ChargingReport active (info.NoSwitch time))) fits =
        rw (
          state_read (post_fields clock number (at, body.Ssf call (message.ChargingReport active (info.NoSwitch time)))) active refl,
          moments clock 2000000000000 at (omega arith) at_fits,
          not_empty number (omega (arith, number_fits)),
          reads 18446744073709551615 number (omega arith) number_fits,
          reads 18446744073709551615 call (omega arith) fits.body.0,
          reads 864000 time (omega arith) fits.body.1,
        ) refl
    post_read (body.Ssf call (message.ChargingReport active (info.Switch since interval))) fits =
        rw (
          state_read (post_fields clock number (at, body.Ssf call (message.ChargingReport active (info.Switch since interval)))) active refl,
          moments clock 2000000000000 at (omega arith) at_fits,
          not_empty number (omega (arith, number_fits)),
          reads 18446744073709551615 number (omega arith) number_fits,
          reads 18446744073709551615 call (omega arith) fits.body.0,
          reads 864000 since (omega arith) fits.body.1.0,
          interval_read (post_fields clock number (at, body.Ssf call (message.ChargingReport active (info.Switch since interval)))) interval refl fits.body.1.1,
        ) refl
    post_read (body.Ssf call message.Ended) fits =
        rw (
          moments clock 2000000000000 at (omega arith) at_fits,
          not_empty number (omega (arith, number_fits)),
          reads 18446744073709551615 number (omega arith) number_fits,
          reads 18446744073709551615 call (omega arith) fits.body.0,
        ) refl
    post_read (body.Recharge account amount until) fits =
        rw (
          moments clock 2000000000000 at (omega arith) at_fits,
          not_empty number (omega (arith, number_fits)),
          reads 18446744073709551615 number (omega arith) number_fits,
          reads 4294967295 account (omega arith) fits.body.0,
          reads 1000000000000000 amount (omega arith) fits.body.1,
          until_read clock (post_fields clock number (at, body.Recharge account amount until)) until refl fits.body.2,
        ) refl
