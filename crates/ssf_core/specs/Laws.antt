-- The laws of traces: what each charging report says, and what never changes.
use Rattle.std.specs.Prelude.{◌≡◌, ◌+◌, ◌++◌, ◌≤◌, ℕ, Bool, true, Some, List, [], ◌∷◌, ⊤, is_some, drop, All}
use Rattle.cap_values.specs.declared.message.SsfMsg.TheVariants.{ChargingReport, InitialDp}
use Rattle.cap_values.specs.declared.operation.ScfOp.TheVariants.{ApplyCharging}
use Rattle.price_core.specs.Reading.{is_time_info}
use Rattle.price_core.specs.declared.times.TimeInfo.{TimeInfo}
use Rattle.ssf_core.specs.Happenings.{Happening, What, Took, sent_in}
use Rattle.ssf_core.specs.Quantities.{answered, granted, pending, switched}
use Rattle.ssf_core.specs.Split.{split}
use Rattle.ssf_core.specs.Traces.{IsTrace}
use Rattle.ssf_core.specs.declared.config.SsfConfig.{SsfConfig}
use Rattle.ssf_core.specs.declared.ssf.Input.TheVariants.{Operate}
use Rattle.ssf_core.specs.declared.item.Item.{Item}
use Rattle.ssf_core.specs.declared.item.Item.TheVariants.{Msg}

-- one period more, where an ApplyCharging is accepted
abbrev pub periods_after : What → ℕ → ℕ
periods_after (Took (Operate (ApplyCharging charge))) before = 1 + before
periods_after _ before = before

-- how many periods were accepted
abbrev pub periods : List Happening → ℕ
periods [] = 0
periods (e ∷ trace) = periods_after e.what (periods trace)

-- one report more, where the item is a charging report
abbrev pub report_count_after : Item → ℕ → ℕ
report_count_after (Msg (ChargingReport active info)) before = 1 + before
report_count_after _ before = before

-- one more for each charging report among these items
abbrev pub reports_after : List Item → ℕ → ℕ
reports_after [] before = before
reports_after (item ∷ items) before = report_count_after item (reports_after items before)

-- how many charging reports were sent
abbrev pub reports : List Happening → ℕ
reports [] = 0
reports (e ∷ trace) = reports_after e.sent (reports trace)

-- a report after a trace, as of a moment: the exact split, while a period is pending, within the sum of the periods, where the call goes on just that sum; and of as many periods as were accepted it is the last one's
pub record FitsTrace (trace : List Happening) (now : ℕ) (active : Bool) (info : TimeInfo) : Type 0 where
  pub answer : ℕ
  pub was_answered : answered trace ≡ Some answer
  pub exact : info ≡ split answer (switched trace) now
  pub within : now ≤ answer + granted trace
  pub whole : active ≡ true → now ≡ answer + granted trace
  pub was_pending : is_some (pending trace) ≡ true
  pub in_turn : periods trace ≡ 1 + reports trace

-- a report fits the trace before it; any other item does
abbrev pub ItemFits : List Happening → ℕ → Item → Type 0
ItemFits trace now (Msg (ChargingReport active info)) = FitsTrace trace now active info
ItemFits trace now _ = ⊤

-- each item that was sent at one moment fits
abbrev pub AllFit : List Happening → ℕ → List Item → Type 0
AllFit trace now [] = ⊤
AllFit trace now (item ∷ items) = ItemFits trace now item × AllFit trace now items

-- each report of a trace fits what came before it
abbrev pub ReportsFit : List Happening → Type 0
ReportsFit [] = ⊤
ReportsFit (e ∷ trace) = ReportsFit trace × AllFit trace e.at e.sent

-- each charging report is the exact split of what was talked, and the k-th comes after the k-th accepted period and before the next
abbrev pub EachReportFits : Type 0
EachReportFits = (config : SsfConfig) (trace : List Happening) → IsTrace config trace → ReportsFit trace

-- the answer never changes once it is there
abbrev pub TheAnswerStays : Type 0
TheAnswerStays =
    (config : SsfConfig) (later trace : List Happening) (moment : ℕ) → IsTrace config (later ++ trace) → answered trace ≡ Some moment
    → answered (later ++ trace) ≡ Some moment

-- the moment of the switch never changes once it has come
abbrev pub TheSwitchStays : Type 0
TheSwitchStays =
    (config : SsfConfig) (later trace : List Happening) (moment : ℕ) → IsTrace config (later ++ trace) → switched trace ≡ Some moment
    → switched (later ++ trace) ≡ Some moment

-- the times of a charging report lie within their ranges
abbrev pub ItemIsInRange : Item → Type 0
ItemIsInRange (Msg (ChargingReport active info)) = is_time_info info ≡ true
ItemIsInRange _ = ⊤

-- the times of each charging report that is sent lie within their ranges
abbrev pub ReportsAreInRange : Type 0
ReportsAreInRange = (config : SsfConfig) (trace : List Happening) → IsTrace config trace → All (λ out. ItemIsInRange out.item) (sent_in trace)

-- an item that is no InitialDP
abbrev pub IsNoInitialDp : Item → Type 0
IsNoInitialDp (Msg (InitialDp call calling called)) = ⊥
IsNoInitialDp _ = ⊤

-- of all that a gsmSSF sends only the first is an InitialDP, if any is
abbrev pub InitialDpIsFirst : Type 0
InitialDpIsFirst = (config : SsfConfig) (trace : List Happening) → IsTrace config trace → All (λ out. IsNoInitialDp out.item) (drop 1 (sent_in trace))
