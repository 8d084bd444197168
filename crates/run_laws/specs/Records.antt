-- What the records of a run's calls say of what was paid.
use Rattle.std.specs.Prelude.{◌≡◌, ◌≢◌, ◌⊎◌, ◌+◌, ◌≤◌, ℕ, true, List, reverse, sum_by, unwrap_or}
use Rattle.account_core.specs.Available.{calls}
use Rattle.account_core.specs.Known.{known, paid_if_granted}
use Rattle.run_outputs.specs.Records.{AreRecords, IsRecord, Run}
use Rattle.run_outputs.specs.declared.call_record.CallRecord.{CallRecord}
use Rattle.run_outputs.specs.declared.outcome.Outcome.TheVariants as outcome
use Rattle.cap_values.specs.NumberDigits.{digits_of_number}
use Rattle.run_values.specs.Openings.{HasAccounts}
use Rattle.run_laws.specs.Starts.{HaveTheirParties, HaveTheirStarts}
use Rattle.run_values.specs.declared.post.Answer.{Answer}
use Rattle.runs_core.specs.Runs.{IsRun}
use Rattle.runs_core.specs.Teams.{are_workers}
use Rattle.account_core.specs.Closed.{Closed}
use Rattle.account_core.specs.Refusals.{Knowing}
use Rattle.price_core.specs.Price.{price_at}
use Rattle.price_core.specs.RatesOf.{rates_of}
use Rattle.tariff_core.specs.Routes.{IsRoute}
use Rattle.price_core.specs.Times.{no_times}
use Rattle.price_core.specs.declared.plan.TheConstants.{MAX_MONEY}
use Rattle.price_core.specs.declared.route.Route.{Route}
use Rattle.price_core.specs.declared.times.TheConstants.{DAY}

-- a run that a driver was served in, whose calls start with the parties that each of their InitialDPs names
pub record IsServedRun (Stood : Closed → ℕ → Knowing) (run : Run) : Type 0 where
  pub workers : ℕ
  pub may_be : are_workers workers ≡ true
  pub answers : List Answer
  pub served : IsRun Stood run.setup workers run.given answers run.books
  pub accounts : HasAccounts run.setup.accounts
  pub parties : HaveTheirParties run.given

-- a call to a number without a route has paid nothing
abbrev pub UnroutedCallsPayNothing : (Closed → ℕ → Knowing) → Type 0
UnroutedCallsPayNothing Stood = (run : Run) (call : CallRecord) → IsServedRun Stood run → IsRecord run call → call.outcome ≡ outcome.NoRoute → call.paid ≡ 0

-- what a call has paid in a book, 0 where it was granted nothing there
abbrev pub paid_in : ℕ → Closed → ℕ
paid_in call book = unwrap_or (paid_if_granted (known call (reverse book.history))) 0

-- what the calls of a book have paid, all together
abbrev pub paid_by_calls : Closed → ℕ
paid_by_calls book = sum_by (λ call. paid_in call book) (calls (reverse book.history))

-- the records of a run's calls have paid what the calls of its books have
abbrev pub RecordsSumUp : (Closed → ℕ → Knowing) → Type 0
RecordsSumUp Stood = (run : Run) (records : List CallRecord) → IsServedRun Stood run → AreRecords run records → sum_by (λ call. call.paid) records ≡ sum_by paid_by_calls run.books

-- a call has no times, and has paid nothing
pub record IsUntalked (call : CallRecord) : Type 0 where
  pub times : call.times ≡ no_times
  pub paid : call.paid ≡ 0

-- a call has paid the price of its times by the route that the number called has at the call's start
pub record PaysItsRoute (run : Run) (call : CallRecord) : Type 0 where
  pub route : Route
  pub routed : IsRoute run.setup.tariff (digits_of_number call.called) call.start route
  pub paid : call.paid ≡ price_at (rates_of route.plan) call.times

-- each call has paid the price of its times by its route, unless it has a forfeit; where no time was granted it has none, and paid nothing
abbrev pub CallsPayTheirRoute : (Closed → ℕ → Knowing) → Type 0
CallsPayTheirRoute Stood =
    (run : Run) (call : CallRecord) → IsServedRun Stood run → HaveTheirStarts run.given → IsRecord run call → call.outcome ≢ outcome.Forfeit → IsUntalked call ⊎ PaysItsRoute run call

-- the times of a record are a day at most, and what it has paid is 0 to `MAX_MONEY`
pub record RecordIsInRange (call : CallRecord) : Type 0 where
  pub times : call.times.before + call.times.after ≤ DAY
  pub paid : call.paid ≤ MAX_MONEY

-- each record of a run is in range
abbrev pub RecordsAreInRange : (Closed → ℕ → Knowing) → Type 0
RecordsAreInRange Stood = (run : Run) (call : CallRecord) → IsServedRun Stood run → IsRecord run call → RecordIsInRange call
