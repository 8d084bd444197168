-- A history with an entry that was admitted and answered.
use Rattle.std.proofs.Common.{◌≡◌, ◌≤◌, ◌+◌, ℕ, Bool, true, false, Option, Some, None, List, [], ◌∷◌, length, refl, sym, arith, subst}
use Rattle.std.specs.Prelude.{◌&&◌, if◌then◌else◌, nat_lt, reverse}
use Rattle.std.proofs.lemmas.Bool.Decides.{nat_tests}
use Rattle.std.proofs.lemmas.List.{length-reverse, reverse-append}
use Rattle.account_core.specs.Answers.{IsLegal, IsLegalPast, inadmissible}
use Rattle.account_core.specs.Asked.{Asked, Credits, Reserves, Returns, Settles, call_of}
use Rattle.account_core.specs.Entries.{EntryData}
use Rattle.account_core.specs.Known.{CallFacts, is_open, known}
use Rattle.account_core.specs.Ledger.{Ledger, answer_of, refusal_of}
use Rattle.account_core.specs.Places.{needed_by, or_else, over_limit, owed, owed_to, places_owed, refusal}
use Rattle.account_core.specs.SharingLaws.{EachIsOwedItsShare}
use Rattle.account_core.specs.declared.fault.AccountFault.{AccountFault}
use Rattle.account_core.specs.declared.fault.AccountFault.TheVariants as fault
use Rattle.turn_account.specs.Plays.{with_entry}

first_none : (first second : Option AccountFault) → or_else first second ≡ None → first ≡ None
first_none None second none = refl
first_none (Some why) second none = none

second_none : (first second : Option AccountFault) → or_else first second ≡ None → second ≡ None
second_none None second none = none
second_none (Some why) second none = absurd (cc none)

within : (limit kept needs : ℕ) (over : Bool) → nat_lt limit (kept + needs) ≡ over → (if over then Some fault.HistoryFull else None) ≡ None → kept + needs ≤ limit
within limit kept needs true is none = absurd (cc none)
within limit kept needs false is none = grind (arith, nat_tests)

admissible_of : (limit : ℕ) (h : List EntryData) (asked : Asked) → refusal limit h asked ≡ None → inadmissible h asked ≡ None
unfolding refusal
admissible_of limit h asked admitted =
    first_none (inadmissible h asked) (over_limit limit (length h + owed h) (needed_by (known (call_of asked) h) asked)) admitted

room_of : (limit : ℕ) (h : List EntryData) (asked : Asked) → refusal limit h asked ≡ None → length h + owed h + needed_by (known (call_of asked) h) asked ≤ limit
unfolding refusal
room_of limit h asked admitted =
    let needs = needed_by (known (call_of asked) h) asked in
    within limit (length h + owed h) needs (nat_lt limit (length h + owed h + needs)) refl
    (second_none (inadmissible h asked) (over_limit limit (length h + owed h) needs) admitted)

owed_to_call : (call : CallFacts) → owed_to call ≡ places_owed (is_open call) call.awaits
unfolding owed_to
owed_to_call call = refl

-- what an operation takes is there, or was owed
reserve_takes : (open_yet awaits : Bool) → 1 ≤ (if open_yet then (if awaits then 1 else 2) else 3)
reserve_takes true true = omega arith
reserve_takes true false = omega arith
reserve_takes false awaits = omega arith

settle_takes : (open_yet awaits : Bool) → 1 ≤ places_owed open_yet awaits + (if open_yet && awaits then 0 else 1)
settle_takes true true = omega arith
settle_takes true false = omega arith
settle_takes false awaits = omega arith

return_takes : (open_yet awaits : Bool) → 1 ≤ places_owed open_yet awaits + (if open_yet then 0 else 1)
return_takes true true = omega arith
return_takes true false = omega arith
return_takes false awaits = omega arith

takes_a_place : (call : CallFacts) (asked : Asked) → 1 ≤ places_owed (is_open call) call.awaits + needed_by call asked
takes_a_place call (Credits amount moment) = omega arith
takes_a_place call (Reserves number plan wanted least at) = omega (arith, reserve_takes (is_open call) call.awaits)
takes_a_place call (Settles number mail info) = settle_takes (is_open call) call.awaits
takes_a_place call (Returns number) = return_takes (is_open call) call.awaits

module _ (account : Ledger) (entry : EntryData) (admitted : refusal_of account entry.asked ≡ None) where
  pub legal_with : IsLegal account.opening account.until account.history → entry.reply ≡ answer_of account entry.asked → IsLegal account.opening account.until (with_entry account entry).history
  legal_with legal answered =
      subst (IsLegalPast account.opening account.until) (sym (reverse-append account.history (entry ∷ [])))
      (legal, record { admissible = admissible_of account.limit (reverse account.history) entry.asked admitted; answered = answered })

  pub short_with : EachIsOwedItsShare → length account.history + 1 ≤ account.limit
  short_with share =
      let past = reverse account.history in
      let call = call_of entry.asked in
      omega (
        arith,
        room_of account.limit past entry.asked admitted,
        takes_a_place (known call past) entry.asked,
        share past call,
        owed_to_call (known call past),
        length-reverse account.history,
      )
