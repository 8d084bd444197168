-- The entries of a legal history are in range.
use Rattle.std.proofs.Common.{◌≡◌, ℕ, ◌+◌, ◌-◌, ◌≤◌, Bool, true, false, Option, Some, None, List, [], ◌∷◌, ◌++◌, refl, sym, ◌∙◌, arith, subst}
use Rattle.std.specs.Prelude.{if◌then◌else◌, nat_le, reverse, All}
use Rattle.std.proofs.lemmas.List.{reverse-append, reverse-reverse}
use Rattle.std.proofs.lemmas.List.Elements.{All-append, All-cons, All-nil, All-same}
use Rattle.price_core.specs.Rates.{Rates}
use Rattle.price_core.specs.Times.{Elapsed}
use Rattle.price_core.specs.declared.times.TimeInfo.{TimeInfo}
use Rattle.account_core.specs.Answers.{IsLegalPast, accepted_times, answer, inadmissible, settle_verdict, showing, shown_by, units_offered, bare_reply}
use Rattle.account_core.specs.Asked.{Asked, Credits, Reserves, Returns, Settles}
use Rattle.account_core.specs.Available.{available, credits, taken_by_all}
use Rattle.account_core.specs.Entries.{EntryData}
use Rattle.account_core.specs.Known.{CallFacts, Reports, is_open, known, known_after, paid_of, plan_in_force, price_under, taken_of}
use Rattle.account_core.specs.Laws.{EntriesAreInRange, EntryIsInRange, IsReplyInRange}
use Rattle.account_core.specs.Sound.{IsSound, IsSoundPast}
use Rattle.account_core.specs.TariffLaws.{TariffLaws}
use Rattle.account_core.specs.declared.entry.Reply.{Reply}
use Rattle.account_core.specs.declared.entry.Reply.TheVariants as reply
use Rattle.account_core.specs.declared.fault.AccountFault.TheVariants as fault
use Rattle.account_core.proofs.CallStateLemmas.{paid_within}
use Rattle.account_core.proofs.Fitting.{answer_shows, money_within, shown_by_showing}
use Rattle.account_core.proofs.SoundPasts.{available_is, legal_is_sound}
use Rattle.account_core.proofs.Soundness.{IsAccepted, accepted, sound_after, stands, taken_open}
use Rattle.account_core.proofs.Verdicts.{in_place, none_else}

-- ---- the credit that a reply shows

showing_in_range : (response : Reply) (credit : ℕ) → credit ≤ 1000000000000000 → IsReplyInRange response → IsReplyInRange (showing credit response)
showing_in_range (reply.Credited available) credit within range = within
showing_in_range (reply.CreditOver available) credit within range = within
showing_in_range (reply.Granted units last available) credit within range = (range.0, within)
showing_in_range (reply.Denied available) credit within range = within
showing_in_range (reply.Settled paid available) credit within range = (range.0, within)
showing_in_range (reply.Forfeit paid available) credit within range = (range.0, within)
showing_in_range (reply.Returned paid available) credit within range = (range.0, within)

left_by : (funds taken credit : ℕ) → credit ≡ funds - taken → funds ≤ 1000000000000000 → credit ≤ 1000000000000000
left_by funds taken credit is capped = omega arith

available_capped : (opening : ℕ) (h : List EntryData) → opening + credits h ≤ 1000000000000000 → available opening h ≤ 1000000000000000
available_capped opening h capped = left_by (opening + credits h) (taken_by_all h) (available opening h) (available_is opening h) capped

-- ---- the other numbers of a reply

credit_in_range : (fits : Bool) → IsReplyInRange (if fits then reply.Credited 0 else reply.CreditOver 0)
credit_in_range true = omega arith
credit_in_range false = omega arith

reserve_in_range : (denied last : Bool) (units : ℕ) → units ≤ 864000 → IsReplyInRange (if denied then reply.Denied 0 else reply.Granted units last 0)
reserve_in_range true last units within = omega arith
reserve_in_range false last units within = (within, omega arith)

module _ (laws : TariffLaws) where
  offered_in_range : (credit : ℕ) (call : CallFacts) (plan : Rates) (wanted : ℕ) → IsSound call → units_offered credit call plan wanted ≤ 864000
  unfolding units_offered
  offered_in_range credit call plan wanted sound =
      let (state, day) = stands laws call plan sound in
      let within = (laws.within (plan_in_force call plan) call.times wanted (credit + taken_of call) day).1 in
      omega (arith, within)

  -- a report that is accepted costs no more than the call holds
  settled_within : (call : CallFacts) (info : TimeInfo) (times : Elapsed) → IsSound call → is_open call ≡ true → accepted_times call info ≡ Some times
      → price_under call.plan times ≤ taken_of call
  settled_within call info times sound open_yet is =
      let report : IsAccepted call info times = accepted call info times is in
      let later : CallFacts = known_after call (Reports info) in
      let sound' : IsSound later = sound_after laws 0 call (Reports info) sound (record { open_yet = open_yet; times = times; accepted = is }) in
      let paid : paid_of later ≤ taken_of later = paid_within laws.not_passed later sound' in
      let costs : paid_of later ≡ price_under call.plan times = rw (report.lawful_yet, report.read) refl in
      let same : taken_of later ≡ taken_of call = taken_open later open_yet ∙ sym (taken_open call open_yet) in
      omega (arith, paid, costs, same)

  settle_in_range : (call : CallFacts) (info : TimeInfo) (times : Option Elapsed) → IsSound call → is_open call ≡ true → taken_of call ≤ 1000000000000000
      → accepted_times call info ≡ times → IsReplyInRange (settle_verdict call times)
  settle_in_range call info None sound open_yet held is = (omega (arith, held, taken_open call open_yet), omega arith)
  settle_in_range call info (Some times) sound open_yet held is = (omega (arith, held, settled_within call info times sound open_yet is), omega arith)

  verdict_in_range : (opening : ℕ) (until : Option ℕ) (h : List EntryData) (asked : Asked) → IsSoundPast opening h → inadmissible h asked ≡ None
      → IsReplyInRange (bare_reply opening until h asked)
  verdict_in_range opening until h (Credits amount moment) sound is = credit_in_range (nat_le (opening + credits h + amount) 1000000000000000)
  verdict_in_range opening until h (Reserves call plan wanted least at) sound is =
      reserve_in_range _ _ (units_offered (available opening h) (known call h) plan wanted)
      (offered_in_range (available opening h) (known call h) plan wanted (sound.each call))
  verdict_in_range opening until h (Settles call number info) sound is =
      let held = money_within opening h call sound in
      settle_in_range (known call h) info (accepted_times (known call h) info) (sound.each call)
      (none_else (is_open (known call h)) fault.NotOpen (in_place h (Settles call number info) is).1) (omega (arith, held)) refl
  verdict_in_range opening until h (Returns call) sound is =
      let held = money_within opening h call sound in
      let paid = paid_within laws.not_passed (known call h) (sound.each call) in
      (omega (arith, held, paid), omega arith)

  -- ---- an entry, and all of them

  entry_in_range : (opening : ℕ) (until : Option ℕ) (h : List EntryData) (entry : EntryData) → opening ≤ 1000000000000000 → IsLegalPast opening until (entry ∷ h)
      → EntryIsInRange entry
  unfolding answer
  entry_in_range opening until h entry small legal =
      let response : Reply = bare_reply opening until h entry.asked in
      let credit : ℕ = available opening (record { seat = 0; asked = entry.asked; reply = response } ∷ h) in
      let shown : shown_by entry.reply ≡ available opening (entry ∷ h) = answer_shows opening until h entry legal.1.answered in
      let capped = available_capped opening (entry ∷ h) (legal_is_sound laws opening until (entry ∷ h) small legal).capped in
      let P : Reply → Type 0 = λ r. shown_by r ≤ 1000000000000000 → IsReplyInRange r in
      record {
        asked = (in_place h entry.asked legal.1.admissible).0;
        reply = subst P (sym legal.1.answered)
            (λ within. showing_in_range response credit (omega (arith, within, shown_by_showing response credit)) (verdict_in_range opening until h entry.asked (legal_is_sound laws opening until h small legal.0) legal.1.admissible))
            (omega (arith, shown, capped));
      }

  past_in_range : (opening : ℕ) (until : Option ℕ) (h : List EntryData) → opening ≤ 1000000000000000 → IsLegalPast opening until h → All EntryIsInRange (reverse h)
  past_in_range opening until [] small legal = All-nil EntryIsInRange
  past_in_range opening until (entry ∷ h) small legal =
      All-same EntryIsInRange (reverse (entry ∷ h)) (reverse h ++ entry ∷ []) (reverse-append (entry ∷ []) h)
      (All-append EntryIsInRange (reverse h) (entry ∷ []) (past_in_range opening until h small legal.0)
      (All-cons EntryIsInRange entry [] (entry_in_range opening until h entry small legal) (All-nil EntryIsInRange)))

  pub in_range : EntriesAreInRange
  in_range opening until history small legal =
      All-same EntryIsInRange history (reverse (reverse history)) (sym (reverse-reverse history)) (past_in_range opening until (reverse history) small legal)
