-- What `rate` says of the records of a run's calls.
use Rattle.std.specs.Prelude.{◌≡◌, ◌≢◌, ℕ, List, Option, Some, None, Result, Ok, MatchResult}
use Rattle.run_outputs.specs.Records.{IsRecord, Run, prefix_of}
use Rattle.run_outputs.specs.declared.call_record.CallRecord.{CallRecord}
use Rattle.run_outputs.specs.declared.outcome.Outcome.TheVariants as outcome
use Rattle.cap_values.specs.NumberDigits.{digits_of_number}
use Rattle.tariff_core.specs.Laws.{IsProper}
use Rattle.rating.specs.Calls.{CallSaid, talk_split}
use Rattle.rating.specs.Rated.{IsPriced, Rating, Faulty, Priced}
use Rattle.rating.specs.declared.charge.PricedTimes.{PricedTimes}
use Rattle.rating.specs.declared.kind.RateKind.{RateKind}
use Rattle.rating.specs.declared.kind.RateKind.TheVariants as kind
use Rattle.run_laws.specs.Records.{IsServedRun}
use Rattle.run_laws.specs.Starts.{HaveTheirStarts}
use Rattle.account_core.specs.Closed.{Closed}
use Rattle.account_core.specs.Refusals.{Knowing}
use Rattle.table_core.specs.Judging.{and_then}

-- what a record says to `rate`, where its start is taken for the answer, and its times before the switch and after it as they are
abbrev pub record_says : CallRecord → Result CallSaid RateKind
record_says call =
    and_then (talk_split call.times.before call.times.after) (λ talk.
    Ok (record { called = digits_of_number call.called; answered = Some (record { at = call.start; talk = talk }); paid = Some call.paid }))

-- what a record comes to by the tariff of its run
abbrev pub IsRatedBy : Run → CallRecord → Rating → Type 0
IsRatedBy run call rating =
    MatchResult (record_says call) (λ said. IsPriced run.setup.tariff said.called said.answered said.paid rating) (λ why. rating ≡ Faulty why)

-- its times, and what it has paid as their price
abbrev pub charge_of : CallRecord → PricedTimes
charge_of call = record { before = call.times.before; after = call.times.after; price = call.paid }

-- what a record comes to whose price is just what it has paid: under its own prefix, or without a route where it has none
abbrev pub paid_rightly : CallRecord → Option (List ℕ) → Rating
paid_rightly call None = Faulty kind.NoRoute
paid_rightly call (Some prefix) = Priced prefix (charge_of call) (Some call.paid)

-- a record of a run without a forfeit has no difference, whatever it comes to: its price by the run's tariff is what it has paid
abbrev pub RecordsHaveNoDifference : (Closed → ℕ → Knowing) → Type 0
RecordsHaveNoDifference Stood =
    (run : Run) (call : CallRecord) (rating : Rating) → IsServedRun Stood run → HaveTheirStarts run.given → IsProper run.setup.tariff → IsRecord run call → call.outcome ≢ outcome.Forfeit
    → IsRatedBy run call rating → rating ≡ paid_rightly call (prefix_of call)
