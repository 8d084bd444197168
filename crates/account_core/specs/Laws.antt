-- What is true of every legal history, in words of its own.
use Rattle.std.specs.Prelude.{◌≡◌, ◌+◌, ◌==◌, ◌≤◌, ℕ, true, false, Option, Some, None, List, [], ◌∷◌, ◌++◌, All, if◌then◌else◌, reverse}
use Rattle.price_core.specs.Price.{price_at}
use Rattle.price_core.specs.Rates.{Rates}
use Rattle.price_core.specs.Reading.{times_read}
use Rattle.price_core.specs.Times.{Elapsed, no_times}
use Rattle.price_core.specs.declared.times.TimeInfo.{TimeInfo}
use Rattle.account_core.specs.Answers.{IsLegal, answer, inadmissible}
use Rattle.account_core.specs.Asked.{Asked, Settles, call_of, is_in_range}
use Rattle.account_core.specs.Available.{available, credits, taken_by_all}
use Rattle.account_core.specs.Entries.{EntryData}
use Rattle.account_core.specs.Expiry.{GrantsBy, LeavesLastMoment, last_moment}
use Rattle.account_core.specs.Known.{EntryDeed, Ends, deed, known}
use Rattle.account_core.specs.Standing.{FitsOperation}
use Rattle.account_core.specs.declared.entry.Reply.{Reply}
use Rattle.account_core.specs.declared.entry.Reply.TheVariants as reply
use Rattle.price_core.specs.declared.plan.TheConstants.{MAX_MONEY}
use Rattle.price_core.specs.declared.times.TheConstants.{DAY}

-- no balance is negative: at no place of a legal history do all calls take more than the opening and the credits accepted so far
abbrev pub NoBalanceIsNegative : Type 0
NoBalanceIsNegative = (opening : ℕ) (until : Option ℕ) (history later : List EntryData) → opening ≤ MAX_MONEY → IsLegal opening until (history ++ later)
    → taken_by_all (reverse history) ≤ opening + credits (reverse history)

-- what the Returned of a call said that it paid in all
abbrev pub paid_after : Option ℕ → EntryDeed → Option ℕ
paid_after before (Ends paid) = Some paid
paid_after before other = before

-- what the last Returned of a call said that it paid in all, after a history
abbrev pub paid_at_return : ℕ → List EntryData → Option ℕ
paid_at_return call [] = None
paid_at_return call (entry ∷ h) = paid_after (paid_at_return call h) (deed call entry)

-- a call that was granted something and returned without a forfeit
pub record IsClosed (call : ℕ) (plan : Rates) (h : List EntryData) : Type 0 where
  pub granted : (known call h).plan ≡ Some plan
  pub returned : (known call h).returned ≡ true
  pub lawful : (known call h).forfeited ≡ false

-- it has paid exactly the price of its times
abbrev pub ClosedCallsPayTheTariff : Type 0
ClosedCallsPayTheTariff = (opening : ℕ) (until : Option ℕ) (history : List EntryData) (call : ℕ) (plan : Rates) → opening ≤ MAX_MONEY → IsLegal opening until history
    → IsClosed call plan (reverse history) → paid_at_return call (reverse history) ≡ Some (price_at plan (known call (reverse history)).times)

-- a report, and the times of its call before it
pub record Reporting : Type 0 where
  pub before : Elapsed
  pub info : TimeInfo

-- the last report of a call, whatever was answered
abbrev pub report_after : Option Reporting → Elapsed → Asked → Option Reporting
report_after last times (Settles call number info) = Some (record { before = times; info = info })
report_after last times asked = last

-- the last report of a call after a history, whatever was answered, with the times before it
abbrev pub last_report : ℕ → List EntryData → Option Reporting
last_report call [] = None
last_report call (entry ∷ h) = if call_of entry.asked == call then report_after (last_report call h) (known call h).times entry.asked else last_report call h

-- the times of a call without a forfeit: those read from its last report after the times before it, and none before any report
abbrev pub AreReported : Option Reporting → Elapsed → Type 0
AreReported None times = times ≡ no_times
AreReported (Some report) times = times_read report.before report.info ≡ Some times

-- the times of a call that never forfeited are those that its last report states
abbrev pub TimesAreReported : Type 0
TimesAreReported = (opening : ℕ) (until : Option ℕ) (history : List EntryData) (call : ℕ) → opening ≤ MAX_MONEY → IsLegal opening until history
    → (known call (reverse history)).forfeited ≡ false → AreReported (last_report call (reverse history)) (known call (reverse history)).times

-- an operation that is a Settle
abbrev pub IsSettle : Asked → Type 0
IsSettle (Settles call number info) = Unit {0}
IsSettle asked = ⊥

-- a Settle leaves what is available as it was
abbrev pub SettlesKeepTheCredit : Type 0
SettlesKeepTheCredit = (opening : ℕ) (until : Option ℕ) (history : List EntryData) (entry : EntryData) → opening ≤ MAX_MONEY → IsLegal opening until (history ++ entry ∷ []) → IsSettle entry.asked
    → available opening (reverse (history ++ entry ∷ [])) ≡ available opening (reverse history)

-- the answer to an admissible operation is of its kind, whatever its call
abbrev pub AnswersFitTheirOperations : Type 0
AnswersFitTheirOperations = (opening : ℕ) (until : Option ℕ) (history : List EntryData) (call : ℕ) (asked : Asked) → opening ≤ MAX_MONEY → IsLegal opening until history
    → inadmissible (reverse history) asked ≡ None → FitsOperation call (known call (reverse history)) asked (answer opening until (reverse history) asked)

-- after the last moment no entry grants anything, until one moves it
abbrev pub NothingIsGrantedLate : Type 0
NothingIsGrantedLate = (opening : ℕ) (until : Option ℕ) (history later : List EntryData) (last : ℕ) → IsLegal opening until (history ++ later)
    → last_moment until (reverse history) ≡ Some last → All (λ entry. LeavesLastMoment entry.asked entry.reply) later → All (λ entry. GrantsBy last entry.asked entry.reply) later

-- the numbers of a reply: what is granted is a day at most, and money is 0 to `MAX_MONEY`
abbrev pub IsReplyInRange : Reply → Type 0
IsReplyInRange (reply.Credited available) = available ≤ MAX_MONEY
IsReplyInRange (reply.CreditOver available) = available ≤ MAX_MONEY
IsReplyInRange (reply.Granted units last available) = (units ≤ DAY) × (available ≤ MAX_MONEY)
IsReplyInRange (reply.Denied available) = available ≤ MAX_MONEY
IsReplyInRange (reply.Settled paid available) = (paid ≤ MAX_MONEY) × (available ≤ MAX_MONEY)
IsReplyInRange (reply.Forfeit paid available) = (paid ≤ MAX_MONEY) × (available ≤ MAX_MONEY)
IsReplyInRange (reply.Returned paid available) = (paid ≤ MAX_MONEY) × (available ≤ MAX_MONEY)

-- what was asked and what was answered are in range
pub record EntryIsInRange (entry : EntryData) : Type 0 where
  pub asked : is_in_range entry.asked ≡ true
  pub reply : IsReplyInRange entry.reply

-- every entry of a legal history is in range
abbrev pub EntriesAreInRange : Type 0
EntriesAreInRange = (opening : ℕ) (until : Option ℕ) (history : List EntryData) → opening ≤ MAX_MONEY → IsLegal opening until history → All EntryIsInRange history
