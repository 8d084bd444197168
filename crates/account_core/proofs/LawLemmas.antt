-- The laws of legal histories.
use Rattle.std.proofs.Common.{◌≡◌, ℕ, ◌≤◌, Bool, true, false, Option, Some, None, List, [], ◌∷◌, ◌++◌, refl, sym, ap, ◌∙◌, arith, subst}
use Rattle.std.specs.Prelude.{◌==◌, reverse, unwrap_or}
use Rattle.std.proofs.lemmas.Bool.{eq-eqb, eqb-true}
use Rattle.std.proofs.lemmas.List.{reverse-append}
use Rattle.price_core.specs.Rates.{Rates}
use Rattle.price_core.specs.Reading.{times_read}
use Rattle.price_core.specs.Times.{Elapsed}
use Rattle.price_core.specs.declared.times.TimeInfo.{TimeInfo}
use Rattle.account_core.specs.Answers.{IsAnswered, IsLegalPast, accepted_times, settle_verdict, bare_reply}
use Rattle.account_core.specs.Asked.{Asked, Credits, Reserves, Returns, Settles, call_of}
use Rattle.account_core.specs.Available.{available, credited}
use Rattle.account_core.specs.Entries.{EntryData}
use Rattle.account_core.specs.Known.{EntryDeed, Ends, Forfeits, Grants, CallFacts, Reports, Rests, deed_of, is_open, known, known_after, paid_of, taken_of}
use Rattle.account_core.specs.Laws.{AreReported, ClosedCallsPayTheTariff, IsSettle, NoBalanceIsNegative, Reporting, SettlesKeepTheCredit, TimesAreReported, last_report, report_after, paid_at_return, paid_after}
use Rattle.account_core.specs.TariffLaws.{TariffLaws}
use Rattle.account_core.specs.declared.entry.Reply.{Reply}
use Rattle.account_core.specs.declared.entry.Reply.TheVariants as reply
use Rattle.account_core.proofs.Fitting.{available_moves}
use Rattle.account_core.proofs.Moves.{deed_apart, deed_here, its_call, its_deed, known_apart, known_here}
use Rattle.account_core.proofs.SoundPasts.{answered_deed, entry_allowed, legal_is_sound}
use Rattle.account_core.proofs.Soundness.{IsAllowed, accepted, open_parts, taken_open}

-- what came first in a legal history is legal
pub prefix_legal : (opening : ℕ) (until : Option ℕ) (later h : List EntryData) → IsLegalPast opening until (later ++ h) → IsLegalPast opening until h
prefix_legal opening until [] h legal = legal
prefix_legal opening until (entry ∷ later) h legal = prefix_legal opening until later h legal.0

pub no_negative : TariffLaws → NoBalanceIsNegative
no_negative laws opening until history later small legal =
    let P : List EntryData → Type 0 = λ h. IsLegalPast opening until h in
    let past = subst P (reverse-append history later) legal in
    (legal_is_sound laws opening until (reverse history) small (prefix_legal opening until (reverse later) (reverse history) past)).covered

-- ---- closed calls

response_here : (h : List EntryData) (entry : EntryData) → paid_at_return (its_call entry) (entry ∷ h) ≡ paid_after (paid_at_return (its_call entry) h) (its_deed entry)
response_here h entry = ap (paid_after (paid_at_return (its_call entry) h)) (deed_here entry)

response_apart : (h : List EntryData) (entry : EntryData) (call : ℕ) → (its_call entry == call) ≡ false → paid_at_return call (entry ∷ h) ≡ paid_at_return call h
response_apart h entry call apart = ap (paid_after (paid_at_return call h)) (deed_apart call entry apart)

ended_yet : (call : CallFacts) → is_open call ≡ true → call.returned ≡ true → ⊥
ended_yet call is ended = let yet = (open_parts call.plan call.returned is).1 in cc

-- the Returned of a call says what it has paid
response_by : (credit : ℕ) (call : CallFacts) (before : Option ℕ) (deed : EntryDeed) → IsAllowed credit call deed → (call.returned ≡ true → before ≡ Some (paid_of call))
    → (known_after call deed).returned ≡ true → paid_after before deed ≡ Some (paid_of (known_after call deed))
response_by credit call before (Grants plan units) grant known_each ended = let yet = grant.unreturned in cc
response_by credit call before (Reports info) report known_each ended = absurd (ended_yet call report.open_yet ended)
response_by credit call before Forfeits is known_each ended = absurd (ended_yet call is ended)
response_by credit call before (Ends paid) end known_each ended = ap Some end.paid_is
response_by credit call before Rests rests known_each ended = known_each ended

module _ (laws : TariffLaws) where
  allowed_at : (opening : ℕ) (until : Option ℕ) (h : List EntryData) (entry : EntryData) → opening ≤ 1000000000000000 → IsLegalPast opening until (entry ∷ h)
      → IsAllowed (available opening h) (known (its_call entry) h) (its_deed entry)
  allowed_at opening until h entry small legal =
      entry_allowed laws opening until h entry ((legal_is_sound laws opening until h small legal.0).each (its_call entry)) legal.1

  said_more : (here : Bool) (opening : ℕ) (until : Option ℕ) (h : List EntryData) (entry : EntryData) (call : ℕ) → (its_call entry == call) ≡ here → opening ≤ 1000000000000000
      → IsLegalPast opening until (entry ∷ h) → ((c : ℕ) → (known c h).returned ≡ true → paid_at_return c h ≡ Some (paid_of (known c h)))
      → (known call (entry ∷ h)).returned ≡ true → paid_at_return call (entry ∷ h) ≡ Some (paid_of (known call (entry ∷ h)))
  said_more true opening until h entry call is small legal before =
      let P : ℕ → Type 0 = λ c. (known c (entry ∷ h)).returned ≡ true → paid_at_return c (entry ∷ h) ≡ Some (paid_of (known c (entry ∷ h))) in
      subst P (eqb-true (its_call entry) call is)
      (rw (known_here h entry, response_here h entry)
      (response_by (available opening h) (known (its_call entry) h) (paid_at_return (its_call entry) h) (its_deed entry) (allowed_at opening until h entry small legal) (before (its_call entry))))
  said_more false opening until h entry call is small legal before = rw (known_apart h entry call is, response_apart h entry call is) (before call)

  response_paid : (opening : ℕ) (until : Option ℕ) (h : List EntryData) → opening ≤ 1000000000000000 → IsLegalPast opening until h
      → (call : ℕ) → (known call h).returned ≡ true → paid_at_return call h ≡ Some (paid_of (known call h))
  response_paid opening until [] small legal call ended = cc
  response_paid opening until (entry ∷ h) small legal call ended =
      said_more (its_call entry == call) opening until h entry call refl small legal (response_paid opening until h small legal.0) ended

  pub closed_pay : ClosedCallsPayTheTariff
  closed_pay opening until history call plan small legal closed =
      response_paid opening until (reverse history) small legal call closed.returned
      ∙ ap Some (rw (closed.lawful, closed.granted) refl)

-- ---- the last report

read_unwrapped : (old : Elapsed) (info : TimeInfo) (times : Elapsed) → times_read old info ≡ Some times → times_read old info ≡ Some (unwrap_or (times_read old info) old)
read_unwrapped old info times is = rw is refl

-- a Settle's answer either reads the report or forfeits
settle_reported : (call : CallFacts) (c number : ℕ) (info : TimeInfo) (times : Option Elapsed) → accepted_times call info ≡ times
    → (known_after call (deed_of (Settles c number info) (settle_verdict call times))).forfeited ≡ false
    → AreReported (Some (record { before = call.times; info = info })) (known_after call (deed_of (Settles c number info) (settle_verdict call times))).times
settle_reported call c number info None is lawful = cc
settle_reported call c number info (Some times) is lawful = read_unwrapped call.times info times (accepted call info times is).read

reserve_times : (call : CallFacts) (c : ℕ) (plan : Rates) (wanted least at : ℕ) (reply : Reply)
    → ((known_after call (deed_of (Reserves c plan wanted least at) reply)).times ≡ call.times) × ((known_after call (deed_of (Reserves c plan wanted least at) reply)).forfeited ≡ call.forfeited)
reserve_times call c plan wanted least at (reply.Granted units last available) = (refl, refl)
reserve_times call c plan wanted least at reply = (refl, refl)

-- what an answered entry does to the times of its call is what its report states
reported_by : (opening : ℕ) (until : Option ℕ) (h : List EntryData) (asked : Asked) (before : Option Reporting)
    → ((known (call_of asked) h).forfeited ≡ false → AreReported before (known (call_of asked) h).times)
    → (known_after (known (call_of asked) h) (deed_of asked (bare_reply opening until h asked))).forfeited ≡ false
    → AreReported (report_after before (known (call_of asked) h).times asked) (known_after (known (call_of asked) h) (deed_of asked (bare_reply opening until h asked))).times
reported_by opening until h (Credits amount moment) before known_each lawful = known_each lawful
reported_by opening until h (Reserves c plan wanted least at) before known_each lawful =
    let (times, forfeited) = reserve_times (known c h) c plan wanted least at (bare_reply opening until h (Reserves c plan wanted least at)) in
    rw times (known_each (sym forfeited ∙ lawful))
reported_by opening until h (Settles c number info) before known_each lawful =
    settle_reported (known c h) c number info (accepted_times (known c h) info) refl lawful
reported_by opening until h (Returns c) before known_each lawful = known_each lawful

report_here : (h : List EntryData) (entry : EntryData) → last_report (its_call entry) (entry ∷ h) ≡ report_after (last_report (its_call entry) h) (known (its_call entry) h).times entry.asked
report_here h entry = rw (eq-eqb (its_call entry) (its_call entry) refl) refl

report_apart : (h : List EntryData) (entry : EntryData) (call : ℕ) → (its_call entry == call) ≡ false → last_report call (entry ∷ h) ≡ last_report call h
report_apart h entry call apart = rw apart refl

IsReported : ℕ → List EntryData → Type 0
IsReported call h = (known call h).forfeited ≡ false → AreReported (last_report call h) (known call h).times

reported_more : (here : Bool) (opening : ℕ) (until : Option ℕ) (h : List EntryData) (entry : EntryData) (call : ℕ) → (its_call entry == call) ≡ here → IsAnswered opening until h entry
    → ((c : ℕ) → IsReported c h) → IsReported call (entry ∷ h)
unfolding IsReported
reported_more true opening until h entry call is answered before =
    let P : ℕ → Type 0 = λ c. (known c (entry ∷ h)).forfeited ≡ false → AreReported (last_report c (entry ∷ h)) (known c (entry ∷ h)).times in
    subst P (eqb-true (its_call entry) call is)
    (rw (known_here h entry, report_here h entry, answered_deed opening until h entry answered)
    (reported_by opening until h entry.asked (last_report (its_call entry) h) (before (its_call entry))))
reported_more false opening until h entry call is answered before = rw (known_apart h entry call is, report_apart h entry call is) (before call)

reported : (opening : ℕ) (until : Option ℕ) (h : List EntryData) → IsLegalPast opening until h → (call : ℕ) → IsReported call h
unfolding IsReported
reported opening until [] legal call lawful = refl
reported opening until (entry ∷ h) legal call lawful = reported_more (its_call entry == call) opening until h entry call refl legal.1 (reported opening until h legal.0) lawful

pub times_reported : TimesAreReported
unfolding IsReported
times_reported opening until history call small legal lawful = reported opening until (reverse history) legal call lawful

-- ---- a Settle

settle_takes : (credit : ℕ) (call : CallFacts) (asked : Asked) (reply : Reply) → IsSettle asked → IsAllowed credit call (deed_of asked reply)
    → taken_of (known_after call (deed_of asked reply)) ≡ taken_of call
settle_takes credit call (Credits amount moment) reply is allowed = absurd is
settle_takes credit call (Reserves c plan wanted least at) reply is allowed = absurd is
settle_takes credit call (Settles c number info) (reply.Settled paid available) is report =
    taken_open (known_after call (Reports info)) report.open_yet ∙ sym (taken_open call report.open_yet)
settle_takes credit call (Settles c number info) (reply.Forfeit paid available) is here =
    taken_open (known_after call Forfeits) here ∙ sym (taken_open call here)
settle_takes credit call (Settles c number info) reply is allowed = refl
settle_takes credit call (Returns c) reply is allowed = absurd is

settle_credits : (asked : Asked) (reply : Reply) → IsSettle asked → credited asked reply ≡ 0
settle_credits (Credits amount moment) reply is = absurd is
settle_credits (Reserves c plan wanted least at) reply is = absurd is
settle_credits (Settles c number info) reply is = refl
settle_credits (Returns c) reply is = absurd is

settle_keeps_past : TariffLaws → (opening : ℕ) (until : Option ℕ) (h : List EntryData) (entry : EntryData) → opening ≤ 1000000000000000 → IsLegalPast opening until (entry ∷ h) → IsSettle entry.asked
    → available opening (entry ∷ h) ≡ available opening h
settle_keeps_past laws opening until h entry small legal is =
    let sound = legal_is_sound laws opening until h small legal.0 in
    let same = settle_takes (available opening h) (known (its_call entry) h) entry.asked entry.reply is (allowed_at laws opening until h entry small legal) in
    let moves = available_moves opening h entry sound (omega (arith, same)) in
    omega (arith, moves, same, settle_credits entry.asked entry.reply is)

pub settle_keeps : TariffLaws → SettlesKeepTheCredit
settle_keeps laws opening until history entry small legal is =
    let P : List EntryData → Type 0 = λ h. IsLegalPast opening until h in
    let Q : List EntryData → Type 0 = λ h. available opening h ≡ available opening (reverse history) in
    let longer = reverse-append history (entry ∷ []) in
    subst Q (sym longer) (settle_keeps_past laws opening until (reverse history) entry small (subst P longer legal) is)
