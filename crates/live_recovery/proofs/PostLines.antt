-- The row that a trace prints of a post is one plain row of nine fields.
use Rattle.std.proofs.Common.{◌≡◌, ℕ, ◌<◌, ◌≤◌, true, false, Option, Some, None, List, [], ◌∷◌, ◌++◌, refl, append-nil, append_assoc, arith}
use Rattle.std.specs.Prelude.{codes, slice_index, IfSome}
use Rattle.std.specs.Char.{is_ascii_digit}
use Rattle.std.specs.Fmt.{decimal}
use Rattle.std.specs.List.{join_with_byte, list_all}
use Rattle.std.proofs.lemmas.Bool.{and_parts}
use Rattle.std.proofs.lemmas.Bool.Decides.{nat_tests}
use Rattle.std.proofs.lemmas.List.Elements.{All-cons, All-from_recursion, All-nil}
use Rattle.table_core.proofs.PrintedLemmas.{digits_plain}
use Rattle.csv.specs.Reading.{strip_bom}
use Rattle.csv.specs.Writing.{comma}
use Rattle.cap_values.specs.NumberDigits.{digits_of_number}
use Rattle.cap_values.specs.declared.event.Event.{Event}
use Rattle.cap_values.specs.declared.event.Event.TheVariants as event
use Rattle.cap_values.specs.declared.leg.Leg.{Leg}
use Rattle.cap_values.specs.declared.leg.Leg.TheVariants as leg
use Rattle.cap_values.specs.declared.message.SsfMsg.TheVariants as message
use Rattle.cap_values.specs.declared.mode.Mode.{Mode}
use Rattle.cap_values.specs.declared.mode.Mode.TheVariants as mode
use Rattle.cap_values.specs.declared.number.Number.{Number}
use Rattle.book_texts.specs.Fits.{IsInterval}
use Rattle.live_recovery.proofs.PostColumns.{post_fields, post_read, row_fields}
use Rattle.live_recovery.specs.Posts.{FitsBody, FitsPost, PostsAreRead}
use Rattle.run_texts.proofs.PlainLines.{low_is_no_mark}
use Rattle.tariff_core.specs.MomentLaws.{MomentsArePlain, MomentsAreRead}
use Rattle.tariff_core.specs.Printing.{moment_or_empty, moment_text}
use Rattle.tariff_core.specs.declared.clock.Clock.{Clock}
use Rattle.run_texts.specs.Said.{Said, event_word, leg_number, mode_word, post_said, state_word}
use Rattle.run_texts.specs.Tables.{call_of_post, head_of, trace_row, sender_of}
use Rattle.run_values.specs.declared.post.Body.{Body}
use Rattle.run_values.specs.declared.post.Body.TheVariants as body
use Rattle.table_core.specs.Printed.{DecimalsArePlain, DecimalsAreRead, IsPlain, IsPlainRow, TablesAreRead, line_of, lines_of}
use Rattle.table_core.specs.Rows.{Fields, rows_of}
use Rattle.price_core.specs.declared.times.TimeInfo.TheVariants as info
use Rattle.table_core.specs.Fields.{number_or_empty}

-- ---- the line

row_line : (clock : Clock) (number : ℕ) (post : ℕ × Body) → trace_row (head_of clock number post) (sender_of post.1) (post_said clock post.1) ≡ line_of (post_fields clock number post)
row_line clock number post = simp append_assoc

pub post_line : (clock : Clock) (number : ℕ) (post : ℕ × Body)
    → trace_row (head_of clock number post) (sender_of post.1) (post_said clock post.1) ≡ lines_of (post_fields clock number post ∷ [])
post_line clock number post = rw (row_line clock number post, append-nil (line_of (post_fields clock number post))) refl

-- ---- no byte order mark

digit_is_low : (c : ℕ) → is_ascii_digit c ≡ true → c < 128
digit_is_low c digit = grind (arith, nat_tests)

first_is_no_mark : (text rest : List ℕ) → is_ascii_digit (slice_index text 0) ≡ true → strip_bom (text ++ rest) ≡ text ++ rest
first_is_no_mark [] rest digit = absurd (cc)
first_is_no_mark (c ∷ text) rest digit = low_is_no_mark c (text ++ rest) (digit_is_low c digit)

line_starts : (first next : List ℕ) (fields : Fields) → lines_of ((first ∷ next ∷ fields) ∷ []) ≡ first ++ comma ∷ (join_with_byte comma (next ∷ fields) ++ codes "\n")
line_starts first next fields = simp (append_assoc, append-nil)

-- the fields of a row behind its number
abbrev pub later_fields : Option ℕ → List ℕ → Said → Fields
later_fields call from said = number_or_empty call ∷ from ∷ said.what ∷ said.x1 ∷ said.x2 ∷ said.x3 ∷ said.x4 ∷ []

unmarked : (first next : List ℕ) (fields : Fields) → is_ascii_digit (slice_index first 0) ≡ true
    → strip_bom (lines_of ((first ∷ next ∷ fields) ∷ [])) ≡ lines_of ((first ∷ next ∷ fields) ∷ [])
unmarked first next fields digit = rw (line_starts first next fields) (first_is_no_mark first _ digit)

-- ---- plain fields

party_plain : (party : Number) → IsPlain (digits_of_number party)
party_plain party = digits_plain (digits_of_number party) (and_parts _ (list_all is_ascii_digit (digits_of_number party)) party.in_range).1

event_plain : (e : Event) → IsPlain (event_word e)
event_plain event.CollectedInfo = refl
event_plain event.RouteSelectFailure = refl
event_plain event.CalledPartyBusy = refl
event_plain event.NoAnswer = refl
event_plain event.Answer = refl
event_plain event.Disconnect = refl
event_plain event.Abandon = refl

mode_plain : (m : Mode) → IsPlain (mode_word m)
mode_plain mode.Interrupted = refl
mode_plain mode.NotifyAndContinue = refl
mode_plain mode.Transparent = refl

pub record IsPlainSaid (said : Said) : Type 0 where
  pub what : IsPlain said.what
  pub x1 : IsPlain said.x1
  pub x2 : IsPlain said.x2
  pub x3 : IsPlain said.x3
  pub x4 : IsPlain said.x4

fields_plain : (moment : List ℕ) (number : ℕ) (call : Option ℕ) (from : List ℕ) (said : Said)
    → IsPlain moment → IsPlain (decimal number) → IsPlain (number_or_empty call) → IsPlain from → IsPlainSaid said → IsPlainRow (row_fields moment number call from said)
fields_plain moment number call from said of_at of_number of_call of_from of_said = record {
  several = omega arith;
  plain = All-from_recursion IsPlain (row_fields moment number call from said)
      (of_at, (of_number, (of_call, (of_from, (of_said.what, (of_said.x1, (of_said.x2, (of_said.x3, (of_said.x4, tt)))))))));
}

module _ (plain : DecimalsArePlain) (moments_plain : MomentsArePlain) (clock : Clock) where
  leg_plain : (l : Option Leg) → IsPlain (number_or_empty (leg_number l))
  leg_plain None = refl
  leg_plain (Some leg.One) = plain 1 (omega arith)
  leg_plain (Some leg.Two) = plain 2 (omega arith)

  interval_plain : (interval : Option ℕ) → IfSome interval IsInterval → IsPlain (number_or_empty interval)
  interval_plain None fits = refl
  interval_plain (Some number) fits = plain number (omega (arith, fits.1))

  until_plain : (until : Option ℕ) → IfSome until (λ last. last ≤ 1000000000000) → IsPlain (moment_or_empty clock until)
  until_plain None fits = refl
  until_plain (Some at) fits = (moments_plain clock at (omega (arith, fits))).plain

  state_plain : (active : _) → IsPlain (state_word active)
  state_plain true = refl
  state_plain false = refl

  said_plain : (b : Body) → FitsBody b → IsPlainSaid (post_said clock b)
  said_plain (body.Ssf call (message.InitialDp inner calling called)) fits =
      record { what = refl; x1 = party_plain calling; x2 = party_plain called; x3 = refl; x4 = refl }
  said_plain (body.Ssf call (message.EventReport e l m)) fits =
      record { what = refl; x1 = event_plain e; x2 = leg_plain l; x3 = mode_plain m; x4 = refl }
  said_plain (body.Ssf call (message.ChargingReport active (info.NoSwitch time))) fits =
      record { what = refl; x1 = state_plain active; x2 = refl; x3 = plain time (omega (arith, fits.1)); x4 = refl }
  said_plain (body.Ssf call (message.ChargingReport active (info.Switch since interval))) fits =
      record { what = refl; x1 = state_plain active; x2 = refl; x3 = plain since (omega (arith, fits.1.0)); x4 = interval_plain interval fits.1.1 }
  said_plain (body.Ssf call message.Ended) fits = record { what = refl; x1 = refl; x2 = refl; x3 = refl; x4 = refl }
  said_plain (body.Recharge account amount until) fits =
      record { what = refl; x1 = plain account (omega (arith, fits.0)); x2 = plain amount (omega (arith, fits.1)); x3 = until_plain until fits.2; x4 = refl }

  call_plain : (b : Body) → FitsBody b → IsPlain (number_or_empty (call_of_post b))
  call_plain (body.Ssf call msg) fits = plain call (omega (arith, fits.0))
  call_plain (body.Recharge account amount until) fits = refl

  sender_plain : (b : Body) → IsPlain (sender_of b)
  sender_plain (body.Ssf call msg) = refl
  sender_plain (body.Recharge account amount until) = refl

  post_plain : (number : ℕ) (post : ℕ × Body) → FitsPost number post → IsPlainRow (post_fields clock number post)
  post_plain number post fits =
      fields_plain (moment_text clock post.0) number (call_of_post post.1) (sender_of post.1) (post_said clock post.1)
      (moments_plain clock post.0 (omega (arith, fits.at))).plain (plain number (omega (arith, fits.counted))) (call_plain post.1 fits.body) (sender_plain post.1) (said_plain post.1 fits.body)

  module _ (tables : TablesAreRead) where
    rows_are_one : (number : ℕ) (post : ℕ × Body) → FitsPost number post → rows_of (lines_of (post_fields clock number post ∷ [])) ≡ post_fields clock number post ∷ []
    rows_are_one number post fits =
        tables (post_fields clock number post ∷ []) (All-cons IsPlainRow (post_fields clock number post) [] (post_plain number post fits) (All-nil IsPlainRow))
        (unmarked (moment_text clock post.0) (decimal number) (later_fields (call_of_post post.1) (sender_of post.1) (post_said clock post.1))
        (moments_plain clock post.0 (omega (arith, fits.at))).digit)

pub posts_read : DecimalsArePlain → DecimalsAreRead → TablesAreRead → MomentsArePlain → MomentsAreRead → PostsAreRead
posts_read plain reads tables moments_plain moments clock number post fits =
    rw (
      post_line clock number post,
      rows_are_one plain moments_plain clock tables number post fits,
      post_read reads moments clock number post.0 fits.counted fits.at post.1 fits,
    ) refl
