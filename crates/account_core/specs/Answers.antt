-- The sequential account: which operations it takes, and the one right reply to each.
use Rattle.std.specs.Prelude.{◌≡◌, ◌+◌, ◌==◌, ◌||◌, ℕ, Bool, Option, Some, None, List, [], ◌∷◌, if◌then◌else◌, nat_le, nat_lt, reverse}
use Rattle.price_core.specs.Afford.{units_afforded}
use Rattle.price_core.specs.Lawful.{is_lawful}
use Rattle.price_core.specs.Rates.{Rates}
use Rattle.price_core.specs.Reading.{times_read}
use Rattle.price_core.specs.Times.{Elapsed}
use Rattle.price_core.specs.declared.times.TimeInfo.{TimeInfo}
use Rattle.account_core.specs.Asked.{Asked, Credits, Reserves, Settles, Returns, call_of, is_in_range}
use Rattle.account_core.specs.Available.{available, credits}
use Rattle.account_core.specs.Entries.{EntryData}
use Rattle.account_core.specs.Expiry.{is_past, last_moment}
use Rattle.account_core.specs.Known.{CallFacts, is_open, known, paid_of, plan_in_force, price_under, taken_of}
use Rattle.account_core.specs.declared.entry.Reply.{Reply}
use Rattle.account_core.specs.declared.entry.Reply.TheVariants as reply
use Rattle.account_core.specs.declared.fault.AccountFault.{AccountFault}
use Rattle.account_core.specs.declared.fault.AccountFault.TheVariants as fault
use Rattle.price_core.specs.declared.plan.TheConstants.{MAX_MONEY}

-- a Settle and a Return are of an open call, and a Reserve isn't of one that was returned
abbrev pub misplaced : CallFacts → Asked → Option AccountFault
misplaced call (Credits amount moment) = None
misplaced call (Reserves number plan wanted least at) = if call.returned then Some fault.CallUsed else None
misplaced call (Settles number mail info) = if is_open call then None else Some fault.NotOpen
misplaced call (Returns number) = if is_open call then None else Some fault.NotOpen

-- why an operation isn't admissible, if it isn't: out of range, else out of place
abbrev pub inadmissible_for : CallFacts → Asked → Option AccountFault
inadmissible_for call asked = if is_in_range asked then misplaced call asked else Some fault.OutOfRange

-- why an operation is refused after a history, whatever room there is
abbrev pub inadmissible : List EntryData → Asked → Option AccountFault
inadmissible h asked = inadmissible_for (known (call_of asked) h) asked

-- the units that a call is offered: the most that the credit, with what the call holds already, covers at their dearest
unfoldable pub units_offered : ℕ → CallFacts → Rates → ℕ → ℕ
units_offered available known plan wanted = units_afforded (plan_in_force known plan) known.times wanted (available + taken_of known)

-- the times that were read, where they are lawful under the plan and within what was granted
abbrev pub lawful_times : Option Rates → CallFacts → Option Elapsed → Option Elapsed
lawful_times None known read = None
lawful_times (Some plan) known None = None
lawful_times (Some plan) known (Some times) = if is_lawful plan known.times times known.granted then Some times else None

-- the times that a report gives a call, where it is accepted: they are read, lawful within what was granted, and no report before it was a forfeit
unfoldable pub accepted_times : CallFacts → TimeInfo → Option Elapsed
accepted_times known info = if known.forfeited then None else lawful_times known.plan known (times_read known.times info)

-- the reply to a Credit, but for the credit that it shows, which is 0 here
abbrev pub credit_verdict : ℕ → ℕ → Reply
credit_verdict funds amount = if nat_le (funds + amount) MAX_MONEY then reply.Credited 0 else reply.CreditOver 0

-- too little time, a forfeit of the call, and a moment past the last one each deny it
abbrev pub reserve_verdict : ℕ → ℕ → ℕ → Bool → Bool → Reply
reserve_verdict units wanted least forfeited late =
    if nat_lt units least || (units == 0) || forfeited || late then reply.Denied 0 else reply.Granted units (nat_lt units wanted) 0

-- a report that is accepted settles the call at its price; any other forfeits all that it holds
abbrev pub settle_verdict : CallFacts → Option Elapsed → Reply
settle_verdict known (Some times) = reply.Settled (price_under known.plan times) 0
settle_verdict known None = reply.Forfeit known.top 0

-- the reply to an operation, with 0 in place of what is available
abbrev pub bare_reply : ℕ → Option ℕ → List EntryData → Asked → Reply
bare_reply opening until h (Credits amount moment) = credit_verdict (opening + credits h) amount
bare_reply opening until h (Reserves call plan wanted least at) =
    reserve_verdict (units_offered (available opening h) (known call h) plan wanted) wanted least (known call h).forfeited (is_past (last_moment until h) at)
bare_reply opening until h (Settles call number info) = settle_verdict (known call h) (accepted_times (known call h) info)
bare_reply opening until h (Returns call) = reply.Returned (paid_of (known call h)) 0

-- a reply that shows another credit
abbrev pub showing : ℕ → Reply → Reply
showing credit (reply.Credited available) = reply.Credited credit
showing credit (reply.CreditOver available) = reply.CreditOver credit
showing credit (reply.Granted units last available) = reply.Granted units last credit
showing credit (reply.Denied available) = reply.Denied credit
showing credit (reply.Settled paid available) = reply.Settled paid credit
showing credit (reply.Forfeit paid available) = reply.Forfeit paid credit
showing credit (reply.Returned paid available) = reply.Returned paid credit

-- the credit that a reply shows
abbrev pub shown_by : Reply → ℕ
shown_by (reply.Credited available) = available
shown_by (reply.CreditOver available) = available
shown_by (reply.Granted units last available) = available
shown_by (reply.Denied available) = available
shown_by (reply.Settled paid available) = available
shown_by (reply.Forfeit paid available) = available
shown_by (reply.Returned paid available) = available

-- the reply to an operation: it shows what is available after the entry, whoever asked
unfoldable pub answer : ℕ → Option ℕ → List EntryData → Asked → Reply
answer opening until h asked =
    showing (available opening (record { seat = 0; asked = asked; reply = bare_reply opening until h asked } ∷ h)) (bare_reply opening until h asked)

-- an entry whose operation was admissible and got the answer
pub record IsAnswered (opening : ℕ) (until : Option ℕ) (h : List EntryData) (entry : EntryData) : Type 0 where
  pub admissible : inadmissible h entry.asked ≡ None
  pub answered : entry.reply ≡ answer opening until h entry.asked

-- every entry was answered in its place
abbrev pub IsLegalPast : ℕ → Option ℕ → List EntryData → Type 0
IsLegalPast opening until [] = Unit {0}
IsLegalPast opening until (entry ∷ h) = IsLegalPast opening until h × IsAnswered opening until h entry

-- the same of a history that is listed oldest first
abbrev pub IsLegal : ℕ → Option ℕ → List EntryData → Type 0
IsLegal opening until history = IsLegalPast opening until (reverse history)
