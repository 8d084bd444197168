-- A call that no account has granted anything has paid nothing.
use Rattle.std.proofs.Common.{◌≡◌, ℕ, Bool, true, false, true≢false, Option, Some, None, List, refl, sym, ap, ◌∙◌, inl, inr}
use Rattle.std.specs.Option.{option_map}
use Rattle.std.specs.Prelude.{◌⊎◌, if◌then◌else◌, is_none, is_some, unwrap_or}
use Rattle.account_core.specs.Known.{CallFacts, known, paid_under}
use Rattle.price_core.specs.Rates.{Rates}
use Rattle.run_outputs.specs.Calls.{parties_of, call_reports_of, start_of}
use Rattle.run_outputs.specs.Laws.{UnservedCallsPayNothing, is_unserved}
use Rattle.run_outputs.specs.Records.{IsPrefixOf, IsRecord, Run, outcome_of_end, granted_outcome}
use Rattle.run_outputs.specs.Standings.{past_of, standing_of}
use Rattle.run_outputs.specs.declared.call_record.CallRecord.{CallRecord}
use Rattle.run_outputs.specs.declared.outcome.Outcome.{Outcome}
use Rattle.run_outputs.specs.declared.outcome.Outcome.TheVariants as outcome
use Rattle.run_outputs.specs.declared.reports.CallReports.{CallReports}
use Rattle.run_outputs.specs.declared.standing.Standing.{Standing}
use Rattle.run_outputs.specs.declared.starts.Start.{Start}
use Rattle.cap_values.specs.NumberDigits.{digits_of_number}
use Rattle.cap_values.specs.declared.number.Number.{Number}
use Rattle.run_values.specs.declared.post.Body.{Body}
use Rattle.tariff_core.specs.Bands.{Band}
use Rattle.tariff_core.specs.Routes.{HasNoRoute}

ended_served : (busy no_answer route_failed abandoned disconnected cut : Bool)
    → is_unserved (if busy then outcome.Busy else if no_answer then outcome.NoAnswer else if route_failed then outcome.RouteFail else if abandoned then outcome.Abandoned
    else if disconnected then outcome.Ended else if cut then outcome.Cut else outcome.Released) ≡ false
ended_served true no_answer route_failed abandoned disconnected cut = refl
ended_served false true route_failed abandoned disconnected cut = refl
ended_served false false true abandoned disconnected cut = refl
ended_served false false false true disconnected cut = refl
ended_served false false false false true cut = refl
ended_served false false false false false true = refl
ended_served false false false false false false = refl

over_served : (reports : CallReports) (standing : Standing) → is_unserved (outcome_of_end reports standing) ≡ false
over_served reports standing = ended_served reports.busy reports.no_answer reports.route_failed reports.abandoned reports.disconnected standing.cut

granted_by : (forfeited : Bool) (end : Option ℕ) (reports : CallReports) (standing : Standing)
    → is_unserved (if forfeited then outcome.Forfeit else if is_none end then outcome.Open else outcome_of_end reports standing) ≡ false
granted_by true end reports standing = refl
granted_by false None reports standing = refl
granted_by false (Some at) reports standing = over_served reports standing

-- a call with such an outcome has no account, or was never granted anything
unserved_by : (account : Option ℕ) (has_route granted denied : Bool) (reports : CallReports) (standing : Standing) → granted ≡ standing.granted → denied ≡ standing.denied
    → is_unserved (if is_none account then outcome.Unknown else if has_route then (if granted then granted_outcome reports standing else if denied then outcome.Denied else outcome.Refused) else outcome.NoRoute) ≡ true
    → (account ≡ None) ⊎ (granted ≡ false)
unserved_by None has_route granted denied reports standing same known is = inl refl
unserved_by (Some account) false granted denied reports standing same known is = absurd (true≢false (sym is))
unserved_by (Some account) true true denied reports standing same known is =
    absurd (true≢false (sym is ∙ granted_by standing.forfeited reports.end reports standing))
unserved_by (Some account) true false denied reports standing same known is = inr refl

pub none_paid : (plan : Option Rates) (known : CallFacts) → is_some plan ≡ false → unwrap_or (paid_under plan known) 0 ≡ 0
none_paid None known none = refl
none_paid (Some plan) known none = absurd (true≢false none)

-- a call that was granted nothing has paid nothing
pub ungranted_pays_nothing : (run : Run) (call : CallRecord) → IsRecord run call → is_some (known call.call (past_of call.account run.books)).plan ≡ false → call.paid ≡ 0
ungranted_pays_nothing run call record_is none =
    record_is.from.paid ∙ none_paid (known call.call (past_of call.account run.books)).plan (known call.call (past_of call.account run.books)) none

pub unserved_pay_nothing : UnservedCallsPayNothing
unserved_pay_nothing run call record_is unserved =
    let from = record_is.from in
    let standing = standing_of call.call (past_of call.account run.books) in
    let reports = call_reports_of call.call run.given in
    from.paid ∙ elim (unserved_by call.account (is_some call.prefix) standing.granted standing.denied reports standing refl refl (sym (ap is_unserved from.outcome_is) ∙ unserved)) [
      | inl none ↦ ap (λ a. (standing_of call.call (past_of a run.books)).paid) none
      | inr new ↦ none_paid (known call.call (past_of call.account run.books)).plan (known call.call (past_of call.account run.books)) new
    ]

-- ---- a call to a number without a route

abbrev is_unrouted : Outcome → Bool
is_unrouted outcome.NoRoute = true
is_unrouted other = false

ended_routed : (busy no_answer route_failed abandoned disconnected cut : Bool)
    → is_unrouted (if busy then outcome.Busy else if no_answer then outcome.NoAnswer else if route_failed then outcome.RouteFail else if abandoned then outcome.Abandoned
    else if disconnected then outcome.Ended else if cut then outcome.Cut else outcome.Released) ≡ false
ended_routed true no_answer route_failed abandoned disconnected cut = refl
ended_routed false true route_failed abandoned disconnected cut = refl
ended_routed false false true abandoned disconnected cut = refl
ended_routed false false false true disconnected cut = refl
ended_routed false false false false true cut = refl
ended_routed false false false false false true = refl
ended_routed false false false false false false = refl

granted_routed : (forfeited : Bool) (end : Option ℕ) (reports : CallReports) (standing : Standing)
    → is_unrouted (if forfeited then outcome.Forfeit else if is_none end then outcome.Open else outcome_of_end reports standing) ≡ false
granted_routed true end reports standing = refl
granted_routed false None reports standing = refl
granted_routed false (Some at) reports standing = ended_routed reports.busy reports.no_answer reports.route_failed reports.abandoned reports.disconnected standing.cut

no_route_by : (account : Option ℕ) (has_route granted denied : Bool) (reports : CallReports) (standing : Standing)
    → is_unrouted (if is_none account then outcome.Unknown else if has_route then (if granted then granted_outcome reports standing else if denied then outcome.Denied else outcome.Refused) else outcome.NoRoute) ≡ true
    → has_route ≡ false
no_route_by None has_route granted denied reports standing is = absurd (true≢false (sym is))
no_route_by (Some account) false granted denied reports standing is = refl
no_route_by (Some account) true true denied reports standing is = absurd (true≢false (sym is ∙ granted_routed standing.forfeited reports.end reports standing))
no_route_by (Some account) true false true reports standing is = absurd (true≢false (sym is))
no_route_by (Some account) true false false reports standing is = absurd (true≢false (sym is))

no_prefix_by : {X : Type 0} (bands : List Band) (called : List ℕ) (listed : X → List ℕ) (prefix : Option X) → is_some prefix ≡ false → IsPrefixOf bands called (option_map listed prefix) → HasNoRoute bands called
no_prefix_by bands called listed None none no_route = no_route
no_prefix_by bands called listed (Some prefix) none no_route = absurd (true≢false none)

-- a call with this outcome has no route
pub unrouted_has_none : (run : Run) (call : CallRecord) (record_is : IsRecord run call) → call.outcome ≡ outcome.NoRoute → HasNoRoute run.setup.tariff (digits_of_number record_is.start.called)
unrouted_has_none run call record_is unrouted =
    let from = record_is.from in
    let standing : Standing = standing_of call.call (past_of call.account run.books) in
    let reports : CallReports = call_reports_of call.call run.given in
    no_prefix_by run.setup.tariff (digits_of_number record_is.start.called) (λ prefix. prefix.items) call.prefix
    (no_route_by call.account (is_some call.prefix) standing.granted standing.denied reports standing (sym (ap is_unrouted from.outcome_is) ∙ ap is_unrouted unrouted))
    from.prefix

-- the parties of a record are those that its call starts with
pub parties_start : (run : Run) (call : CallRecord) (record_is : IsRecord run call) → parties_of call.call run.given ≡ Some (record_is.start.calling, record_is.start.called)
parties_start run call record_is = ap (option_map (λ (start : Start). (start.calling, start.called))) record_is.begins

some_mapped : {X Y : Type 0} (f : X → Y) (found : Option X) (y : Y) → option_map f found ≡ Some y → is_some found ≡ true
some_mapped f None y is = cc
some_mapped f (Some x) y is = refl

-- a call with parties has started
pub started_by : (call : ℕ) (given : List (ℕ × Body)) (parties : Number × Number) → parties_of call given ≡ Some parties → is_some (start_of call given) ≡ true
started_by call given parties is = some_mapped (λ (start : Start). (start.calling, start.called)) (start_of call given) parties is
