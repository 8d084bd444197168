-- What a history says of the call of a record is sound: its times and what it has paid are in range.
use Rattle.std.proofs.Common.{◌≡◌, ◌==◌, ◌<◌, ◌≤◌, ◌+◌, ℕ, Option, Some, None, List, [], length, refl, sym, ap, subst, arith}
use Rattle.std.specs.Prelude.{find, reverse, slice_index_or, unwrap_or}
use Rattle.account_core.proofs.CallStateLemmas.{paid_within}
use Rattle.account_core.proofs.Fitting.{money_within}
use Rattle.account_core.proofs.SoundPasts.{legal_is_sound}
use Rattle.account_core.proofs.Soundness.{stands}
use Rattle.account_core.specs.Entries.{EntryData}
use Rattle.account_core.specs.Known.{CallFacts, known, paid_of, paid_under}
use Rattle.account_core.specs.Sound.{IsSoundPast, IsSoundUnder}
use Rattle.account_core.specs.TariffLaws.{TariffLaws}
use Rattle.run_outputs.specs.Records.{IsRecord, Run}
use Rattle.run_outputs.specs.Standings.{past_in, past_of}
use Rattle.run_outputs.specs.declared.call_record.CallRecord.{CallRecord}
use Rattle.run_laws.proofs.Openings.{opened_within}
use Rattle.run_laws.proofs.Unrouted.{all_found}
use Rattle.run_laws.specs.Records.{RecordIsInRange, IsServedRun, RecordsAreInRange}
use Rattle.account_core.specs.Closed.{Closed}
use Rattle.account_core.specs.Refusals.{Knowing}
use Rattle.price_core.specs.Rates.{Rates}
use Rattle.price_core.specs.Times.{Elapsed, no_times}

-- ---- the past of an account is sound

abbrev IsSoundBook : Closed → Type 0
IsSoundBook book = IsSoundPast book.opening (reverse book.history)

abbrev HasSoundPast : List EntryData → Type 0
HasSoundPast past = (opening : ℕ) × IsSoundPast opening past

untalked_facts : (call : CallFacts) (plan : Option Rates) → plan ≡ None → IsSoundUnder plan call → call.times ≡ no_times
untalked_facts call None none sound = ap (λ (k : CallFacts). k.times) sound
untalked_facts call (Some plan) none sound = cc

-- a plan of nothing
abbrev no_rates : Rates
no_rates = record { fee = 0; before = 0; after = None; free = 0; first = 0; step = 1 }

module _ (Stood : Closed → ℕ → Knowing) (laws : TariffLaws) (run : Run) (is : IsServedRun Stood run) where
  empty_past : HasSoundPast []
  empty_past = (0, legal_is_sound laws 0 None [] (omega arith) tt)

  found_past : (found : Option Closed) → ((book : Closed) → found ≡ Some book → IsSoundBook book) → HasSoundPast (past_in found)
  found_past None sound = empty_past
  found_past (Some book) sound = (book.opening, sound book refl)

  all_sound : (k : ℕ) (d : Closed) → k < length run.books → IsSoundBook (slice_index_or run.books k d)
  all_sound k d within =
      let book : Closed = slice_index_or run.books k d in
      legal_is_sound laws book.opening book.until (reverse book.history) (opened_within run.setup is.workers run.books is.may_be is.served.opened is.accounts k d within).opening (is.served.legal k d within)

  past_sound : (account : Option ℕ) → HasSoundPast (past_of account run.books)
  past_sound None = empty_past
  past_sound (Some account) =
      found_past (find (λ book. book.account == account) run.books)
      (λ book found. all_found IsSoundBook (λ book. book.account == account) run.books book all_sound found)

  -- a call that was granted nothing has no times
  pub untalked : (call : ℕ) (account : Option ℕ) → (known call (past_of account run.books)).plan ≡ None → (known call (past_of account run.books)).times ≡ no_times
  untalked call account none =
      let past = past_sound account in
      untalked_facts (known call (past_of account run.books)) (known call (past_of account run.books)).plan none (past.1.each call)

  -- ---- a record is in range

  money : (plan : Option Rates) (call : CallFacts) → paid_of call ≤ 1000000000000000 → unwrap_or (paid_under plan call) 0 ≤ 1000000000000000
  money None call within = omega arith
  money (Some plan) call within = within

  in_range : (call : CallRecord) → IsRecord run call → RecordIsInRange call
  in_range call record_is =
      let past = past_sound call.account in
      let h : List EntryData = past_of call.account run.books in
      let k : CallFacts = known call.call h in
      let room = money_within past.0 h call.call past.1 in
      let taken = paid_within laws.not_passed k (past.1.each call.call) in
      let paid : unwrap_or (paid_under k.plan k) 0 ≤ 1000000000000000 = money k.plan k (omega (arith, room, taken)) in
      let day : k.times.before + k.times.after ≤ 864000 = (stands laws k no_rates (past.1.each call.call)).1 in
      let Day : Elapsed → Type 0 = λ times. times.before + times.after ≤ 864000 in
      let Money : ℕ → Type 0 = λ amount. amount ≤ 1000000000000000 in
      record { times = subst Day (sym record_is.from.times) day; paid = subst Money (sym record_is.from.paid) paid }

pub all_in_range : (Stood : Closed → ℕ → Knowing) → TariffLaws → RecordsAreInRange Stood
all_in_range Stood laws run call is record_is = in_range Stood laws run is call record_is
