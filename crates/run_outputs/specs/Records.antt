-- The records of a run's calls.
use Rattle.std.specs.Prelude.{◌≡◌, ◌==◌, ℕ, Bool, Option, Some, None, List, All, map, if◌then◌else◌, is_some, is_none}
use Rattle.std.specs.List.{list_any}
use Rattle.std.specs.List.Sorted.{IsStrictlySortedBy}
use Rattle.std.specs.Option.{option_map}
use Rattle.std.specs.Ordering.{nat_cmp}
use Rattle.cap_values.specs.NumberDigits.{digits_of_number}
use Rattle.run_values.specs.Setups.{Setup, account_of}
use Rattle.run_values.specs.declared.post.Body.{Body}
use Rattle.account_core.specs.Closed.{Closed}
use Rattle.tariff_core.specs.Bands.{Band}
use Rattle.tariff_core.specs.Routes.{HasNoRoute, IsPrefixFor}
use Rattle.run_outputs.specs.Calls.{call_reports_of, start_of}
use Rattle.run_outputs.specs.Standings.{past_of, standing_of}
use Rattle.run_outputs.specs.declared.outcome.Outcome.{Outcome}
use Rattle.run_outputs.specs.declared.outcome.Outcome.TheVariants as outcome
use Rattle.run_outputs.specs.declared.call_record.CallRecord.{CallRecord}
use Rattle.run_outputs.specs.declared.reports.CallReports.{CallReports}
use Rattle.run_outputs.specs.declared.standing.Standing.{Standing}
use Rattle.run_outputs.specs.declared.starts.Start.{Start}

-- what a run has come to: what it was set up with, what its workers were given, and the books of its accounts
pub record Run : Type 0 where
  pub setup : Setup
  pub given : List (ℕ × Body)
  pub books : List Closed

-- a call that the switch has ended: by what it has reported first of these, else by its credit, else by a timer, the service, or before its instructions came
abbrev pub outcome_of_end : CallReports → Standing → Outcome
outcome_of_end reports standing =
    if reports.busy then outcome.Busy
    else if reports.no_answer then outcome.NoAnswer
    else if reports.route_failed then outcome.RouteFail
    else if reports.abandoned then outcome.Abandoned
    else if reports.disconnected then outcome.Ended
    else if standing.cut then outcome.Cut
    else outcome.Released

-- a call that was granted something
abbrev pub granted_outcome : CallReports → Standing → Outcome
granted_outcome reports standing =
    if standing.forfeited then outcome.Forfeit
    else if is_none reports.end then outcome.Open
    else outcome_of_end reports standing

-- what became of a call that has this account, this prefix, these reports and this standing with its account
abbrev pub outcome_of : Option ℕ → Bool → CallReports → Standing → Outcome
outcome_of account has_route reports standing =
    if is_none account then outcome.Unknown
    else if has_route then (if standing.granted then granted_outcome reports standing else if standing.denied then outcome.Denied else outcome.Refused)
    else outcome.NoRoute

-- the longest prefix of a tariff that a called number begins with, if there is one
abbrev pub IsPrefixOf : List Band → List ℕ → Option (List ℕ) → Type 0
IsPrefixOf bands called None = HasNoRoute bands called
IsPrefixOf bands called (Some prefix) = IsPrefixFor bands called prefix

-- the prefix of a record
abbrev pub prefix_of : CallRecord → Option (List ℕ)
prefix_of call = option_map (λ prefix. prefix.items) call.prefix

-- the record of a call that starts so
pub record IsRecordFrom (run : Run) (start : Start) (call : CallRecord) : Type 0 where
  pub calling : call.calling ≡ start.calling
  pub called : call.called ≡ start.called
  pub start_is : call.start ≡ start.at
  pub account : call.account ≡ account_of start.calling run.setup.subscribers
  pub prefix : IsPrefixOf run.setup.tariff (digits_of_number start.called) (prefix_of call)
  pub answer : call.answer ≡ (call_reports_of call.call run.given).answer
  pub end : call.end ≡ (call_reports_of call.call run.given).end
  pub times : call.times ≡ (standing_of call.call (past_of call.account run.books)).times
  pub paid : call.paid ≡ (standing_of call.call (past_of call.account run.books)).paid
  pub outcome_is : call.outcome ≡ outcome_of call.account (is_some call.prefix) (call_reports_of call.call run.given) (standing_of call.call (past_of call.account run.books))

-- the record of a call of the run
pub record IsRecord (run : Run) (call : CallRecord) : Type 0 where
  pub start : Start
  pub begins : start_of call.call run.given ≡ Some start
  pub from : IsRecordFrom run start call

-- the records of a run: one of each call that starts, ascending
pub record AreRecords (run : Run) (calls : List CallRecord) : Type 0 where
  pub ascending : IsStrictlySortedBy nat_cmp (map (λ call. call.call) calls)
  pub started : (call : ℕ) → is_some (start_of call run.given) ≡ list_any (λ other. call == other) (map (λ other. other.call) calls)
  pub each : All (IsRecord run) calls
