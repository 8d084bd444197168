-- The rules of the gsmSSF (GSM 03.78): what is sent, and the phase that follows.
use Rattle.std.specs.Prelude.{◌+◌, ◌++◌, ◌||◌, ◌&&◌, ℕ, Bool, true, false, Option, Some, None, Result, Ok, Err, List, [], ◌∷◌, if◌then◌else◌, is_some, nat_le, nat_lt, unwrap_or}
use Rattle.cap_values.specs.CauseValues.{normal_call_clearing, temporary_failure}
use Rattle.cap_values.specs.declared.arming.Point.{Point}
use Rattle.cap_values.specs.declared.arming.Point.TheVariants as point
use Rattle.cap_values.specs.declared.cause.Cause.{Cause}
use Rattle.cap_values.specs.declared.charge.Charge.{Charge}
use Rattle.cap_values.specs.declared.event.Event.{Event}
use Rattle.cap_values.specs.declared.event.Event.TheVariants as event
use Rattle.cap_values.specs.declared.leg.Leg.{Leg}
use Rattle.cap_values.specs.declared.leg.Leg.TheVariants.{One, Two}
use Rattle.cap_values.specs.declared.message.SsfMsg.TheVariants as message
use Rattle.cap_values.specs.declared.mode.Mode.{Mode}
use Rattle.cap_values.specs.declared.mode.Mode.TheVariants.{Interrupted, NotifyAndContinue, Transparent}
use Rattle.cap_values.specs.declared.number.Number.{Number}
use Rattle.cap_values.specs.declared.operation.ScfOp.{ScfOp}
use Rattle.cap_values.specs.declared.operation.ScfOp.TheVariants.{RequestReport, ApplyCharging, Continue, ReleaseCall}
use Rattle.ssf_core.specs.Happenings.{Happening}
use Rattle.ssf_core.specs.declared.ssf.Input.{Input}
use Rattle.ssf_core.specs.declared.ssf.Input.TheVariants.{Invoke, Trigger, Operate, Meet}
use Rattle.ssf_core.specs.Phases.{SsfPhase, Unused, Requested, Initial, Early, Active, Down, Ended}
use Rattle.ssf_core.specs.Quantities.{answered, granted, mode_at, pending, period_end, switched}
use Rattle.ssf_core.specs.Split.{split}
use Rattle.ssf_core.specs.declared.item.BcsmEvent.{BcsmEvent}
use Rattle.ssf_core.specs.declared.item.BcsmEvent.TheVariants as met
use Rattle.ssf_core.specs.declared.config.DefaultHandling.{DefaultHandling}
use Rattle.ssf_core.specs.declared.config.DefaultHandling.TheVariants as handling
use Rattle.ssf_core.specs.declared.fault.SsfFault.{SsfFault}
use Rattle.ssf_core.specs.declared.fault.SsfFault.TheVariants.{UnexpectedComponentSequence, ParameterOutOfRange, NoSuchEvent}
use Rattle.ssf_core.specs.declared.item.Item.{Item}
use Rattle.ssf_core.specs.declared.item.Item.TheVariants.{Msg, Proceed, Clear}
use Rattle.ssf_core.specs.declared.timers.Timer.{Timer}
use Rattle.ssf_core.specs.declared.timers.Timer.TheVariants.{Tsw, Tcp, Tccd, Tssf}
use Rattle.price_core.specs.declared.times.TheConstants.{DAY}

-- what is sent, in order, and the phase that follows
pub record Effect : Type 0 where
  pub sent : List Item
  pub next : SsfPhase

-- items are sent, and the dialogue goes on
abbrev pub goes : List Item → SsfPhase → Effect
goes sent next = record { sent = sent; next = next }

-- items are sent, and the dialogue ends
abbrev pub ends : List Item → Effect
ends sent = record { sent = sent ++ Msg message.Ended ∷ []; next = Ended }

-- items are sent before others
abbrev pub sent_before : List Item → Effect → Effect
sent_before first effect = record { sent = first ++ effect.sent; next = effect.next }

-- the input has no place in the phase
abbrev pub unexpected : Result Effect SsfFault
unexpected = Err UnexpectedComponentSequence

-- the charging report as of a moment
abbrev pub report : List Happening → ℕ → Bool → Item
report trace now active = Msg (message.ChargingReport active (split (unwrap_or (answered trace) 0) (switched trace) now))

-- if a period is pending: a report that the call doesn't go on
abbrev pub last_report_sent : List Happening → ℕ → List Item
last_report_sent trace now = if is_some (pending trace) then report trace now false ∷ [] else []

-- an event, reported with its mode
abbrev pub event_report : Event → Option Leg → Mode → List Item
event_report event leg mode = Msg (message.EventReport event leg mode) ∷ []

-- an event, reported where its mode is NotifyAndContinue
abbrev pub notified : Event → Mode → List Item
notified event Interrupted = []
notified event NotifyAndContinue = event_report event None NotifyAndContinue
notified event Transparent = []

-- by mode. Transparent: ends. NotifyAndContinue: reported, ends. Interrupted: reported, and the service is asked
abbrev pub by_mode : Event → Option Leg → Mode → Effect
by_mode event leg Interrupted = goes (event_report event leg Interrupted) Down
by_mode event leg NotifyAndContinue = ends (event_report event leg NotifyAndContinue)
by_mode event leg Transparent = ends []

-- a mode in which the event is reported to the service
abbrev pub is_watched : Mode → Bool
is_watched Interrupted = true
is_watched NotifyAndContinue = true
is_watched Transparent = false

-- whether a point isn't Transparent
abbrev pub any_watched : (Point → Mode) → Bool
any_watched modes =
    is_watched (modes point.RouteSelectFailure)
    || is_watched (modes point.CalledPartyBusy)
    || is_watched (modes point.NoAnswer)
    || is_watched (modes point.Answer)
    || is_watched (modes (point.Disconnect One))
    || is_watched (modes (point.Disconnect Two))
    || is_watched (modes point.Abandon)

-- invoke: Idle and never invoked alone
abbrev pub on_invoke : SsfPhase → Result Effect SsfFault
on_invoke Unused = Ok (goes [] Requested)
on_invoke _ = unexpected

-- trigger: WaitForRequest alone
abbrev pub on_trigger : ℕ → Number → Number → SsfPhase → Result Effect SsfFault
on_trigger call calling called Requested = Ok (goes (Msg (message.InitialDp call calling called) ∷ []) Initial)
on_trigger call calling called _ = unexpected

-- RequestReport: in WaitingForInstructions and Monitoring
abbrev pub on_request_report : SsfPhase → Result Effect SsfFault
on_request_report Initial = Ok (goes [] Initial)
on_request_report Early = Ok (goes [] Early)
on_request_report Active = Ok (goes [] Active)
on_request_report Down = Ok (goes [] Down)
on_request_report _ = unexpected

-- a first period, where none is pending
abbrev pub first_period : Option Bool → SsfPhase → Result Effect SsfFault
first_period None phase = Ok (goes [] phase)
first_period (Some release) phase = unexpected

-- a further period fits where a day isn't passed in all and its end lies ahead
abbrev pub is_fitting : ℕ → ℕ → ℕ → ℕ → Bool
is_fitting answer total period now = nat_le (total + period) DAY && nat_lt now (answer + total + period)

-- a further period, while Tccd runs
abbrev pub further_period : Option ℕ → Bool → Result Effect SsfFault
further_period None fits = unexpected
further_period (Some end) true = Ok (goes [] Active)
further_period (Some end) false = Err ParameterOutOfRange

-- ApplyCharging: a first period before the answer, a further one after it
abbrev pub on_apply_charging : List Happening → ℕ → Charge → SsfPhase → Result Effect SsfFault
on_apply_charging trace now charge Initial = first_period (pending trace) Initial
on_apply_charging trace now charge Early = first_period (pending trace) Early
on_apply_charging trace now charge Active =
    further_period (period_end trace) (is_fitting (unwrap_or (answered trace) 0) (granted trace) charge.period now)
on_apply_charging trace now charge _ = unexpected

-- Continue: the call proceeds; it is monitored where a point is watched or a period is pending
abbrev pub on_continue : List Happening → SsfPhase → Result Effect SsfFault
on_continue trace Initial =
    Ok (if any_watched (mode_at trace) || is_some (pending trace) then goes (Proceed ∷ []) Early else ends (Proceed ∷ []))
on_continue trace Down = Ok (ends (Proceed ∷ []))
on_continue trace _ = unexpected

-- ReleaseCall: after the answer with a last report
abbrev pub on_release_call : List Happening → ℕ → Cause → SsfPhase → Result Effect SsfFault
on_release_call trace now cause Initial = Ok (ends (Clear cause ∷ []))
on_release_call trace now cause Down = Ok (ends (Clear cause ∷ []))
on_release_call trace now cause Early = Ok (ends (Clear cause ∷ []))
on_release_call trace now cause Active = Ok (sent_before (last_report_sent trace now) (ends (Clear cause ∷ [])))
on_release_call trace now cause _ = unexpected

-- an operation of the service
abbrev pub on_operation : List Happening → ℕ → ScfOp → SsfPhase → Result Effect SsfFault
on_operation trace now (RequestReport arms) phase = on_request_report phase
on_operation trace now (ApplyCharging charge) phase = on_apply_charging trace now charge phase
on_operation trace now Continue phase = on_continue trace phase
on_operation trace now (ReleaseCall cause) phase = on_release_call trace now cause phase

-- Answer: the call is active
abbrev pub on_answer : Mode → SsfPhase → Result Effect SsfFault
on_answer mode Early = Ok (goes (notified event.Answer mode) Active)
on_answer mode _ = Err NoSuchEvent

-- RouteSelectFailure, Busy, NoAnswer: by mode
abbrev pub on_failure : Event → Mode → SsfPhase → Result Effect SsfFault
on_failure event mode Early = Ok (by_mode event None mode)
on_failure event mode _ = Err NoSuchEvent

-- Abandon: before the answer, also before the call goes on
abbrev pub on_abandon : Mode → SsfPhase → Result Effect SsfFault
on_abandon mode Initial = Ok (ends (notified event.Abandon mode))
on_abandon mode Early = Ok (ends (notified event.Abandon mode))
on_abandon mode _ = Err NoSuchEvent

-- Disconnect: with a last report, then by the mode of that leg's point
abbrev pub on_disconnect : List Happening → ℕ → Leg → SsfPhase → Result Effect SsfFault
on_disconnect trace now leg Active =
    Ok (sent_before (last_report_sent trace now) (by_mode event.Disconnect (Some leg) (mode_at trace (point.Disconnect leg))))
on_disconnect trace now leg _ = Err NoSuchEvent

-- an event of the call
abbrev pub on_event : List Happening → ℕ → BcsmEvent → SsfPhase → Result Effect SsfFault
on_event trace now met.RouteSelectFailure phase = on_failure event.RouteSelectFailure (mode_at trace point.RouteSelectFailure) phase
on_event trace now met.Busy phase = on_failure event.CalledPartyBusy (mode_at trace point.CalledPartyBusy) phase
on_event trace now met.NoAnswer phase = on_failure event.NoAnswer (mode_at trace point.NoAnswer) phase
on_event trace now met.Answer phase = on_answer (mode_at trace point.Answer) phase
on_event trace now (met.Disconnect leg) phase = on_disconnect trace now leg phase
on_event trace now met.Abandon phase = on_abandon (mode_at trace point.Abandon) phase

-- an input as of a moment: its effect, or why it is refused
abbrev pub on_input : List Happening → SsfPhase → ℕ → Input → Result Effect SsfFault
on_input trace phase now Invoke = on_invoke phase
on_input trace phase now (Trigger call calling called) = on_trigger call calling called phase
on_input trace phase now (Operate op) = on_operation trace now op phase
on_input trace phase now (Meet event) = on_event trace now event phase

-- the end of a period: with the wish to release, a last report, and the call is cleared; else a report, and Tccd starts
abbrev pub on_period_end : List Happening → ℕ → Bool → Effect
on_period_end trace now true = ends (report trace now false ∷ Clear normal_call_clearing ∷ [])
on_period_end trace now false = goes (report trace now true ∷ []) Active

-- Tssf: the default handling
abbrev pub on_tssf : DefaultHandling → Effect
on_tssf handling.Proceed = ends (Proceed ∷ [])
on_tssf handling.Release = ends (Clear temporary_failure ∷ [])

-- the expiry of a timer, as of its due moment
abbrev pub on_expiry : DefaultHandling → List Happening → SsfPhase → ℕ → Timer → Effect
on_expiry default trace phase now Tsw = goes [] phase
on_expiry default trace phase now Tcp = on_period_end trace now (unwrap_or (pending trace) false)
on_expiry default trace phase now Tccd = ends (Clear temporary_failure ∷ [])
on_expiry default trace phase now Tssf = on_tssf default
