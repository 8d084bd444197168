-- What the records of the calls of a played script have paid.
use Rattle.std.proofs.Common.{ℕ, List, sym, subst}
use Rattle.run_outputs.specs.Records.{Run}
use Rattle.run_values.specs.Openings.{HasAccounts}
use Rattle.run_laws.proofs.Starts.{played_starts, started_parties}
use Rattle.run_laws.specs.Played.{PlayedCallsHavePaid}
use Rattle.run_laws.specs.Records.{CallsPayTheirRoute, IsServedRun, RecordsSumUp, UnroutedCallsPayNothing}
use Rattle.run_laws.specs.Starts.{HaveTheirStarts}
use Rattle.run_values.specs.declared.directory.OpeningCredit.{OpeningCredit}
use Rattle.runs_core.specs.Hearing.{all_heard}
use Rattle.turn_account.specs.Seen.{StoodIn}
use Rattle.ssf_core.specs.Laws.{InitialDpIsFirst}

pub played_paid : InitialDpIsFirst → RecordsSumUp StoodIn → UnroutedCallsPayNothing StoodIn → CallsPayTheirRoute StoodIn → PlayedCallsHavePaid
played_paid first sums unrouted routed ask said given heard books may_be accounts given_by are =
    let Has : List (ℕ × OpeningCredit) → Type 0 = λ a. HasAccounts a in
    let starts : HaveTheirStarts given = played_starts first given_by.config given given_by.play.calls in
    let run : Run = record { setup = are.setup; given = given; books = books } in
    let served : IsServedRun StoodIn run = record {
      workers = ask.workers;
      may_be = may_be;
      answers = all_heard heard;
      served = are.run;
      accounts = subst Has (sym are.of_input.accounts) accounts;
      parties = started_parties given starts;
    } in
    record {
      sums_up = λ records are_records. sums run records served are_records;
      unrouted = λ call is none. unrouted run call served is none;
      routed = λ call is lawful. routed run call served starts is lawful;
      served = served;
      starts = starts;
    }
