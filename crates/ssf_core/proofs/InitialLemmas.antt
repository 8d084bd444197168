-- Only the first item that a gsmSSF sends is an InitialDP: the call is triggered once, and nothing else sends one.
use Rattle.std.proofs.Common.{◌≡◌, ◌++◌, ℕ, Bool, true, false, Option, Some, None, Result, Ok, Err, List, [], ◌∷◌, refl, sym, subst, unwrap_or, All}
use Rattle.std.specs.Prelude.{◌||◌, if◌then◌else◌, is_some, drop, ⊤}
use Rattle.std.proofs.lemmas.List.Elements.{All-append, All-cons, All-nil, All-tail}
use Rattle.cap_values.specs.declared.arming.Point.TheVariants as point
use Rattle.cap_values.specs.declared.cause.Cause.{Cause}
use Rattle.cap_values.specs.declared.charge.Charge.{Charge}
use Rattle.cap_values.specs.declared.event.Event.{Event}
use Rattle.cap_values.specs.declared.event.Event.TheVariants as event
use Rattle.cap_values.specs.declared.leg.Leg.{Leg}
use Rattle.cap_values.specs.declared.message.SsfMsg.TheVariants as message
use Rattle.cap_values.specs.declared.mode.Mode.{Mode}
use Rattle.cap_values.specs.declared.mode.Mode.TheVariants.{Interrupted, NotifyAndContinue, Transparent}
use Rattle.cap_values.specs.declared.number.Number.{Number}
use Rattle.cap_values.specs.declared.operation.ScfOp.{ScfOp}
use Rattle.cap_values.specs.declared.operation.ScfOp.TheVariants.{RequestReport, ApplyCharging, Continue, ReleaseCall}
use Rattle.ssf_core.specs.Happenings.{Happening, What, Took, Expired, sent_at, sent_in}
use Rattle.ssf_core.specs.Laws.{InitialDpIsFirst, IsNoInitialDp}
use Rattle.ssf_core.specs.Phases.{SsfPhase, Unused, Requested, Initial, Early, Active, Down, Ended}
use Rattle.ssf_core.specs.Quantities.{answered, granted, mode_at, pending, period_end}
use Rattle.ssf_core.specs.Rules.{Effect, sent_before, any_watched, by_mode, ends, first_period, further_period, goes, is_fitting, last_report_sent, notified, on_abandon, on_answer, on_apply_charging, on_continue, on_disconnect, on_event, on_expiry, on_failure, on_input, on_invoke, on_operation, on_period_end, on_release_call, on_request_report, on_trigger, on_tssf, report}
use Rattle.ssf_core.specs.Traces.{HasEffect, IsTrace, due_in, next_phase, phase_after}
use Rattle.ssf_core.specs.declared.item.BcsmEvent.{BcsmEvent}
use Rattle.ssf_core.specs.declared.item.BcsmEvent.TheVariants as met
use Rattle.ssf_core.specs.declared.config.DefaultHandling.{DefaultHandling}
use Rattle.ssf_core.specs.declared.config.DefaultHandling.TheVariants as handling
use Rattle.ssf_core.specs.declared.config.SsfConfig.{SsfConfig}
use Rattle.ssf_core.specs.declared.fault.SsfFault.{SsfFault}
use Rattle.ssf_core.specs.declared.ssf.Input.{Input}
use Rattle.ssf_core.specs.declared.ssf.Input.TheVariants.{Invoke, Trigger, Operate, Meet}
use Rattle.ssf_core.specs.declared.item.Item.{Item}
use Rattle.ssf_core.specs.declared.item.Item.TheVariants.{Msg, Proceed, Clear}
use Rattle.ssf_core.specs.declared.item.Out.{Out}
use Rattle.ssf_core.specs.declared.timers.Timer.{Timer}
use Rattle.ssf_core.specs.declared.timers.Timer.TheVariants.{Tsw, Tcp, Tccd, Tssf}

IsNone : Out → Type 0
IsNone out = IsNoInitialDp out.item

-- ---- what the rules send after the trigger

-- none of these items is an InitialDP
abbrev NoneOf : List Item → Type 0
NoneOf [] = ⊤
NoneOf (item ∷ items) = IsNoInitialDp item × NoneOf items

-- the call was triggered
abbrev IsTriggered : SsfPhase → Type 0
IsTriggered Unused = ⊥
IsTriggered Requested = ⊥
IsTriggered _ = ⊤

-- an effect sends none, and leaves a call that was triggered
abbrev SendsNone : Effect → Type 0
SendsNone effect = NoneOf effect.sent × IsTriggered effect.next

-- so does what is taken
abbrev Takes : Result Effect SsfFault → Type 0
Takes (Ok effect) = SendsNone effect
Takes (Err fault) = ⊤

none_by_mode : (e : Event) (leg : Option Leg) (mode : Mode) → SendsNone (by_mode e leg mode)
none_by_mode e leg Interrupted = ((tt, tt), tt)
none_by_mode e leg NotifyAndContinue = ((tt, (tt, tt)), tt)
none_by_mode e leg Transparent = ((tt, tt), tt)

none_after : (t : List Happening) (now : ℕ) (wish : Option Bool) (items : List Item) → NoneOf items → NoneOf ((if is_some wish then report t now false ∷ [] else []) ++ items)
none_after t now None items none = none
none_after t now (Some release) items none = (tt, none)

takes_request : (phase : SsfPhase) → Takes (on_request_report phase)
takes_request Unused = tt
takes_request Requested = tt
takes_request Initial = (tt, tt)
takes_request Early = (tt, tt)
takes_request Active = (tt, tt)
takes_request Down = (tt, tt)
takes_request Ended = tt

takes_first : (wish : Option Bool) → Takes (first_period wish Initial) × Takes (first_period wish Early)
takes_first None = ((tt, tt), (tt, tt))
takes_first (Some release) = (tt, tt)

takes_further : (end : Option ℕ) (fits : Bool) → Takes (further_period end fits)
takes_further None fits = tt
takes_further (Some moment) true = (tt, tt)
takes_further (Some moment) false = tt

takes_charging : (t : List Happening) (now : ℕ) (charge : Charge) (phase : SsfPhase) → Takes (on_apply_charging t now charge phase)
takes_charging t now charge Unused = tt
takes_charging t now charge Requested = tt
takes_charging t now charge Initial = (takes_first (pending t)).0
takes_charging t now charge Early = (takes_first (pending t)).1
takes_charging t now charge Active = takes_further (period_end t) (is_fitting (unwrap_or (answered t) 0) (granted t) charge.period now)
takes_charging t now charge Down = tt
takes_charging t now charge Ended = tt

takes_going_on : (watched : Bool) → Takes (Ok (if watched then goes (Proceed ∷ []) Early else ends (Proceed ∷ [])))
takes_going_on true = ((tt, tt), tt)
takes_going_on false = ((tt, (tt, tt)), tt)

takes_continue : (t : List Happening) (phase : SsfPhase) → Takes (on_continue t phase)
takes_continue t Unused = tt
takes_continue t Requested = tt
takes_continue t Initial = takes_going_on (any_watched (mode_at t) || is_some (pending t))
takes_continue t Early = tt
takes_continue t Active = tt
takes_continue t Down = ((tt, (tt, tt)), tt)
takes_continue t Ended = tt

takes_release : (t : List Happening) (now : ℕ) (cause : Cause) (phase : SsfPhase) → Takes (on_release_call t now cause phase)
takes_release t now cause Unused = tt
takes_release t now cause Requested = tt
takes_release t now cause Initial = ((tt, (tt, tt)), tt)
takes_release t now cause Early = ((tt, (tt, tt)), tt)
takes_release t now cause Active = (none_after t now (pending t) (Clear cause ∷ Msg message.Ended ∷ []) (tt, (tt, tt)), tt)
takes_release t now cause Down = ((tt, (tt, tt)), tt)
takes_release t now cause Ended = tt

takes_operation : (t : List Happening) (now : ℕ) (op : ScfOp) (phase : SsfPhase) → Takes (on_operation t now op phase)
takes_operation t now (RequestReport arms) phase = takes_request phase
takes_operation t now (ApplyCharging charge) phase = takes_charging t now charge phase
takes_operation t now Continue phase = takes_continue t phase
takes_operation t now (ReleaseCall cause) phase = takes_release t now cause phase

takes_failure : (e : Event) (mode : Mode) (phase : SsfPhase) → Takes (on_failure e mode phase)
takes_failure e mode Unused = tt
takes_failure e mode Requested = tt
takes_failure e mode Initial = tt
takes_failure e mode Early = none_by_mode e None mode
takes_failure e mode Active = tt
takes_failure e mode Down = tt
takes_failure e mode Ended = tt

none_notified : (e : Event) (mode : Mode) → NoneOf (notified e mode) × NoneOf (notified e mode ++ Msg message.Ended ∷ [])
none_notified e Interrupted = (tt, (tt, tt))
none_notified e NotifyAndContinue = ((tt, tt), (tt, (tt, tt)))
none_notified e Transparent = (tt, (tt, tt))

takes_answer : (mode : Mode) (phase : SsfPhase) → Takes (on_answer mode phase)
takes_answer mode Unused = tt
takes_answer mode Requested = tt
takes_answer mode Initial = tt
takes_answer mode Early = ((none_notified event.Answer mode).0, tt)
takes_answer mode Active = tt
takes_answer mode Down = tt
takes_answer mode Ended = tt

takes_abandon : (mode : Mode) (phase : SsfPhase) → Takes (on_abandon mode phase)
takes_abandon mode Unused = tt
takes_abandon mode Requested = tt
takes_abandon mode Initial = ((none_notified event.Abandon mode).1, tt)
takes_abandon mode Early = ((none_notified event.Abandon mode).1, tt)
takes_abandon mode Active = tt
takes_abandon mode Down = tt
takes_abandon mode Ended = tt

takes_hung_up : (t : List Happening) (now : ℕ) (leg : Leg) (mode : Mode) → Takes (Ok (sent_before (last_report_sent t now) (by_mode event.Disconnect (Some leg) mode)))
takes_hung_up t now leg Interrupted =
    (none_after t now (pending t) (by_mode event.Disconnect (Some leg) Interrupted).sent (none_by_mode event.Disconnect (Some leg) Interrupted).0, tt)
takes_hung_up t now leg NotifyAndContinue =
    (none_after t now (pending t) (by_mode event.Disconnect (Some leg) NotifyAndContinue).sent (none_by_mode event.Disconnect (Some leg) NotifyAndContinue).0, tt)
takes_hung_up t now leg Transparent =
    (none_after t now (pending t) (by_mode event.Disconnect (Some leg) Transparent).sent (none_by_mode event.Disconnect (Some leg) Transparent).0, tt)

takes_disconnect : (t : List Happening) (now : ℕ) (leg : Leg) (phase : SsfPhase) → Takes (on_disconnect t now leg phase)
takes_disconnect t now leg Unused = tt
takes_disconnect t now leg Requested = tt
takes_disconnect t now leg Initial = tt
takes_disconnect t now leg Early = tt
takes_disconnect t now leg Active = takes_hung_up t now leg (mode_at t (point.Disconnect leg))
takes_disconnect t now leg Down = tt
takes_disconnect t now leg Ended = tt

takes_event : (t : List Happening) (now : ℕ) (e : BcsmEvent) (phase : SsfPhase) → Takes (on_event t now e phase)
takes_event t now met.RouteSelectFailure phase = takes_failure event.RouteSelectFailure (mode_at t point.RouteSelectFailure) phase
takes_event t now met.Busy phase = takes_failure event.CalledPartyBusy (mode_at t point.CalledPartyBusy) phase
takes_event t now met.NoAnswer phase = takes_failure event.NoAnswer (mode_at t point.NoAnswer) phase
takes_event t now met.Answer phase = takes_answer (mode_at t point.Answer) phase
takes_event t now (met.Disconnect leg) phase = takes_disconnect t now leg phase
takes_event t now met.Abandon phase = takes_abandon (mode_at t point.Abandon) phase

none_at_end : (t : List Happening) (now : ℕ) (release : Bool) → SendsNone (on_period_end t now release)
none_at_end t now true = ((tt, (tt, (tt, tt))), tt)
none_at_end t now false = ((tt, tt), tt)

none_at_tssf : (default : DefaultHandling) → SendsNone (on_tssf default)
none_at_tssf handling.Proceed = ((tt, (tt, tt)), tt)
none_at_tssf handling.Release = ((tt, (tt, tt)), tt)

-- ---- what was sent, by the phase

-- nothing before the trigger, and no InitialDP behind the first item
abbrev Opens : SsfPhase → List Out → Type 0
Opens Unused outs = outs ≡ []
Opens Requested outs = outs ≡ []
Opens _ outs = All IsNone (drop 1 outs)

opened : (phase : SsfPhase) (outs : List Out) → Opens phase outs → All IsNone (drop 1 outs)
opened Unused outs is = subst (λ (l : List Out). All IsNone (drop 1 l)) (sym is) (All-nil IsNone)
opened Requested outs is = subst (λ (l : List Out). All IsNone (drop 1 l)) (sym is) (All-nil IsNone)
opened Initial outs is = is
opened Early outs is = is
opened Active outs is = is
opened Down outs is = is
opened Ended outs is = is

opens : (phase : SsfPhase) (outs : List Out) → IsTriggered phase → All IsNone (drop 1 outs) → Opens phase outs
opens Unused outs triggered all = absurd triggered
opens Requested outs triggered all = absurd triggered
opens Initial outs triggered all = all
opens Early outs triggered all = all
opens Active outs triggered all = all
opens Down outs triggered all = all
opens Ended outs triggered all = all

none_sent : (now : ℕ) (items : List Item) → NoneOf items → All IsNone (sent_at now items)
unfolding IsNone
none_sent now [] none = All-nil IsNone
none_sent now (item ∷ items) none = All-cons IsNone (record { at = now; item = item }) (sent_at now items) none.0 (none_sent now items none.1)

behind_first : (outs more : List Out) → All IsNone (drop 1 outs) → All IsNone more → All IsNone (drop 1 (outs ++ more))
behind_first [] [] all rest = All-nil IsNone
behind_first [] (out ∷ more) all rest = All-tail IsNone out more rest
behind_first (out ∷ outs) more all rest = All-append IsNone outs more all rest

-- an effect that sends none follows
goes_on : (phase : SsfPhase) (outs : List Out) (now : ℕ) (effect : Effect) → SendsNone effect → Opens phase outs → Opens effect.next (outs ++ sent_at now effect.sent)
goes_on phase outs now effect none is =
    opens effect.next (outs ++ sent_at now effect.sent) none.1 (behind_first outs (sent_at now effect.sent) (opened phase outs is) (none_sent now effect.sent none.0))

-- an effect that is taken follows
abbrev Follows : SsfPhase → List Out → ℕ → Result Effect SsfFault → Type 0
Follows phase outs now (Ok effect) = Opens phase outs → Opens effect.next (outs ++ sent_at now effect.sent)
Follows phase outs now (Err fault) = ⊤

follows_by : (phase : SsfPhase) (outs : List Out) (now : ℕ) (result : Result Effect SsfFault) → Takes result → Follows phase outs now result
follows_by phase outs now (Ok effect) takes = goes_on phase outs now effect takes
follows_by phase outs now (Err fault) takes = tt

nothing_more : (outs : List Out) → outs ≡ [] → outs ++ [] ≡ []
nothing_more outs is = subst (λ (l : List Out). l ++ [] ≡ []) (sym is) refl

triggered_first : (outs : List Out) (out : Out) → outs ≡ [] → All IsNone (drop 1 (outs ++ out ∷ []))
triggered_first outs out is = subst (λ (l : List Out). All IsNone (drop 1 (l ++ out ∷ []))) (sym is) (All-nil IsNone)

follows_invoke : (phase : SsfPhase) (outs : List Out) (now : ℕ) → Follows phase outs now (on_invoke phase)
follows_invoke Unused outs now = nothing_more outs
follows_invoke Requested outs now = tt
follows_invoke Initial outs now = tt
follows_invoke Early outs now = tt
follows_invoke Active outs now = tt
follows_invoke Down outs now = tt
follows_invoke Ended outs now = tt

follows_trigger : (call : ℕ) (calling called : Number) (phase : SsfPhase) (outs : List Out) (now : ℕ) → Follows phase outs now (on_trigger call calling called phase)
follows_trigger call calling called Unused outs now = tt
follows_trigger call calling called Requested outs now = triggered_first outs (record { at = now; item = Msg (message.InitialDp call calling called) })
follows_trigger call calling called Initial outs now = tt
follows_trigger call calling called Early outs now = tt
follows_trigger call calling called Active outs now = tt
follows_trigger call calling called Down outs now = tt
follows_trigger call calling called Ended outs now = tt

follows_input : (t : List Happening) (phase : SsfPhase) (outs : List Out) (now : ℕ) (input : Input) → Follows phase outs now (on_input t phase now input)
follows_input t phase outs now Invoke = follows_invoke phase outs now
follows_input t phase outs now (Trigger call calling called) = follows_trigger call calling called phase outs now
follows_input t phase outs now (Operate op) = follows_by phase outs now (on_operation t now op phase) (takes_operation t now op phase)
follows_input t phase outs now (Meet e) = follows_by phase outs now (on_event t now e phase) (takes_event t now e phase)

-- no timer runs before the trigger
runs_triggered : (config : SsfConfig) (t : List Happening) (phase : SsfPhase) (timer : Timer) (now : ℕ) → due_in config t phase timer ≡ Some now → IsTriggered phase
runs_triggered config t Unused Tsw now runs = absurd (cc)
runs_triggered config t Unused Tcp now runs = absurd (cc)
runs_triggered config t Unused Tccd now runs = absurd (cc)
runs_triggered config t Unused Tssf now runs = absurd (cc)
runs_triggered config t Requested Tsw now runs = absurd (cc)
runs_triggered config t Requested Tcp now runs = absurd (cc)
runs_triggered config t Requested Tccd now runs = absurd (cc)
runs_triggered config t Requested Tssf now runs = absurd (cc)
runs_triggered config t Initial timer now runs = tt
runs_triggered config t Early timer now runs = tt
runs_triggered config t Active timer now runs = tt
runs_triggered config t Down timer now runs = tt
runs_triggered config t Ended timer now runs = tt

none_expired : (default : DefaultHandling) (t : List Happening) (phase : SsfPhase) (now : ℕ) (timer : Timer) → IsTriggered phase → SendsNone (on_expiry default t phase now timer)
none_expired default t phase now Tsw triggered = (tt, triggered)
none_expired default t phase now Tcp triggered = none_at_end t now (unwrap_or (pending t) false)
none_expired default t phase now Tccd triggered = ((tt, (tt, tt)), tt)
none_expired default t phase now Tssf triggered = none_at_tssf default

follows : (config : SsfConfig) (t : List Happening) (now : ℕ) (what : What) (sent : List Item) → HasEffect config t now what sent → Opens (phase_after config t) (sent_in t)
    → Opens (next_phase config t (phase_after config t) now what) (sent_in t ++ sent_at now sent)
follows config t now (Took input) sent has is =
    let (effect, takes, same) = has in
    let phase = phase_after config t in
    let kept : Follows phase (sent_in t) now (Ok effect) = subst (λ (r : Result Effect SsfFault). Follows phase (sent_in t) now r) takes (follows_input t phase (sent_in t) now input) in
    rw (takes, same) (kept is)
follows config t now (Expired timer) sent has is =
    let (runs, same) = has in
    let phase = phase_after config t in
    let effect = on_expiry config.default_handling t phase now timer in
    rw same (goes_on phase (sent_in t) now effect (none_expired config.default_handling t phase now timer (runs_triggered config t phase timer now runs)) is)

trace_opens : (config : SsfConfig) (t : List Happening) → IsTrace config t → Opens (phase_after config t) (sent_in t)
trace_opens config [] is = refl
trace_opens config (e ∷ t) is = follows config t e.at e.what e.sent is.1.has_effect (trace_opens config t is.0)

pub initial_first : InitialDpIsFirst
unfolding IsNone
initial_first config t is = opened (phase_after config t) (sent_in t) (trace_opens config t is)
