-- The laws of traces: what is known of a trace by its phase, and that each report fits.
use Rattle.std.proofs.Common.{◌≡◌, ◌+◌, ◌++◌, ◌≤◌, ◌<◌, ℕ, Bool, true, false, Option, Some, None, Result, Ok, Err, List, [], ◌∷◌, refl, sym, ap, subst, ◌∙◌, arith, unwrap_or}
use Rattle.std.specs.Prelude.{◌||◌, if◌then◌else◌, is_some, ⊤}
use Rattle.cap_values.specs.declared.charge.Charge.{Charge}
use Rattle.cap_values.specs.declared.cause.Cause.{Cause}
use Rattle.cap_values.specs.declared.arms.Arms.{Arms}
use Rattle.cap_values.specs.declared.arming.Point.TheVariants as point
use Rattle.cap_values.specs.declared.event.Event.{Event}
use Rattle.cap_values.specs.declared.event.Event.TheVariants as event
use Rattle.cap_values.specs.declared.leg.Leg.{Leg}
use Rattle.cap_values.specs.declared.message.SsfMsg.TheVariants as message
use Rattle.cap_values.specs.declared.mode.Mode.{Mode}
use Rattle.cap_values.specs.declared.mode.Mode.TheVariants.{Interrupted, NotifyAndContinue, Transparent}
use Rattle.cap_values.specs.declared.number.Number.{Number}
use Rattle.cap_values.specs.declared.operation.ScfOp.TheVariants.{RequestReport, ApplyCharging, Continue, ReleaseCall}
use Rattle.ssf_core.specs.Happenings.{Happening, What, Took, Expired}
use Rattle.ssf_core.specs.Laws.{AllFit, EachReportFits, ItemFits, FitsTrace, periods, periods_after, reports, reports_after}
use Rattle.ssf_core.specs.Phases.{SsfPhase, Unused, Requested, Initial, Early, Active, Down, Ended}
use Rattle.ssf_core.specs.Quantities.{answered, answered_after, granted, mode_at, pending, pending_after, period_end, period_end_after, switched}
use Rattle.ssf_core.specs.Split.{split}
use Rattle.ssf_core.specs.Rules.{Effect, sent_before, any_watched, by_mode, ends, first_period, further_period, goes, is_fitting, last_report_sent, notified, on_abandon, on_answer, on_apply_charging, on_continue, on_disconnect, on_expiry, on_failure, on_input, on_invoke, on_period_end, on_release_call, on_request_report, on_trigger, on_tssf, report}
use Rattle.ssf_core.specs.Traces.{ComesBefore, HasEffect, IsTrace, due, due_in, next_phase, period_due, phase_after, tcp_due}
use Rattle.ssf_core.specs.declared.item.BcsmEvent.TheVariants as met
use Rattle.ssf_core.specs.declared.config.DefaultHandling.{DefaultHandling}
use Rattle.ssf_core.specs.declared.config.DefaultHandling.TheVariants as handling
use Rattle.ssf_core.specs.declared.config.SsfConfig.{SsfConfig}
use Rattle.ssf_core.specs.declared.fault.SsfFault.{SsfFault}
use Rattle.ssf_core.specs.declared.ssf.Input.{Input}
use Rattle.ssf_core.specs.declared.ssf.Input.TheVariants.{Invoke, Trigger, Operate, Meet}
use Rattle.ssf_core.specs.declared.item.Item.{Item}
use Rattle.ssf_core.specs.declared.item.Item.TheVariants.{Msg, Proceed, Clear}
use Rattle.ssf_core.specs.declared.timers.Timer.{Timer}
use Rattle.ssf_core.specs.declared.timers.Timer.TheVariants.{Tsw, Tcp, Tccd, Tssf}

-- one more for a pending period
abbrev owing : Option Bool → ℕ → ℕ
owing None n = n
owing (Some release) n = 1 + n

-- before the answer, while it is active, and afterwards: the answer, and the periods accepted, of which each was reported but the pending one
abbrev pub Known : SsfPhase → Option ℕ → Option Bool → ℕ → ℕ → Type 0
Known Unused answer wish n r = (answer ≡ None) × (n ≡ owing wish r)
Known Requested answer wish n r = (answer ≡ None) × (n ≡ owing wish r)
Known Initial answer wish n r = (answer ≡ None) × (n ≡ owing wish r)
Known Early answer wish n r = (answer ≡ None) × (n ≡ owing wish r)
Known Active answer wish n r = ((moment : ℕ) × (answer ≡ Some moment)) × (n ≡ owing wish r)
Known Down answer wish n r = ⊤
Known Ended answer wish n r = ⊤

abbrev pub KnownOf : SsfPhase → List Happening → Type 0
KnownOf phase t = Known phase (answered t) (pending t) (periods t) (reports t)

-- the end of the pending period lies ahead
abbrev IsAhead : SsfPhase → List Happening → ℕ → Type 0
IsAhead phase t now = (d : ℕ) → tcp_due t phase ≡ Some d → now < d

-- an effect leaves what is known, and its reports fit
abbrev Keeps : List Happening → ℕ → What → Effect → Type 0
Keeps t now what effect =
    Known effect.next (answered_after what now (answered t)) (pending_after what (pending t)) (periods_after what (periods t)) (reports_after effect.sent (reports t))
    × AllFit t now effect.sent

-- the items of an input: a report says that the call doesn't go on
abbrev ItemIsLast : List Happening → ℕ → Item → Type 0
ItemIsLast t now (Msg (message.ChargingReport active info)) = FitsTrace t now active info × (active ≡ false)
ItemIsLast t now (Msg (message.InitialDp call calling called)) = ⊤
ItemIsLast t now (Msg (message.EventReport e leg mode)) = ⊤
ItemIsLast t now (Msg message.Ended) = ⊤
ItemIsLast t now Proceed = ⊤
ItemIsLast t now (Clear cause) = ⊤

abbrev pub AllLast : List Happening → ℕ → List Item → Type 0
AllLast t now [] = ⊤
AllLast t now (item ∷ items) = ItemIsLast t now item × AllLast t now items

item_last : (t : List Happening) (now : ℕ) (item : Item) → ItemIsLast t now item → ItemFits t now item
item_last t now (Msg (message.ChargingReport active info)) last = last.0
item_last t now (Msg (message.InitialDp call calling called)) last = tt
item_last t now (Msg (message.EventReport e leg mode)) last = tt
item_last t now (Msg message.Ended) last = tt
item_last t now Proceed last = tt
item_last t now (Clear cause) last = tt

last_fit : (t : List Happening) (now : ℕ) (items : List Item) → AllLast t now items → AllFit t now items
last_fit t now [] last = tt
last_fit t now (item ∷ items) last = (item_last t now item last.0, last_fit t now items last.1)

-- an input that is taken leaves what is known, and its reports are last ones
abbrev Takes : List Happening → ℕ → Input → Result Effect SsfFault → Type 0
Takes t now input (Ok effect) =
    Known effect.next (answered_after (Took input) now (answered t)) (pending_after (Took input) (pending t)) (periods_after (Took input) (periods t))
    (reports_after effect.sent (reports t))
    × AllLast t now effect.sent
Takes t now input (Err fault) = ⊤

ended_next : (t : List Happening) (now : ℕ) (what : What) (d : ℕ) → ((x : ℕ) → period_end t ≡ Some x → pending t ≡ None)
    → period_end_after what now (period_end t) ≡ Some d → pending_after what (pending t) ≡ None
ended_next t now (Took Invoke) d before is = before d is
ended_next t now (Took (Trigger call calling called)) d before is = before d is
ended_next t now (Took (Operate (RequestReport arms))) d before is = before d is
ended_next t now (Took (Operate (ApplyCharging charge))) d before is = absurd (cc)
ended_next t now (Took (Operate Continue)) d before is = before d is
ended_next t now (Took (Operate (ReleaseCall cause))) d before is = before d is
ended_next t now (Took (Meet e)) d before is = before d is
ended_next t now (Expired Tsw) d before is = before d is
ended_next t now (Expired Tcp) d before is = refl
ended_next t now (Expired Tccd) d before is = before d is
ended_next t now (Expired Tssf) d before is = before d is

-- a period that has ended isn't pending
ended_none : (t : List Happening) (d : ℕ) → period_end t ≡ Some d → pending t ≡ None
ended_none [] d is = refl
ended_none (e ∷ t) d is = ended_next t e.at e.what d (ended_none t) is

-- a report as of a moment of an active call, while a period is pending
fits : (t : List Happening) (now moment : ℕ) (release goes_on : Bool) → answered t ≡ Some moment → pending t ≡ Some release → periods t ≡ owing (pending t) (reports t)
    → now ≤ moment + granted t → (goes_on ≡ true → now ≡ moment + granted t)
    → FitsTrace t now goes_on (split (unwrap_or (answered t) 0) (switched t) now)
fits t now moment release goes_on answer wish counted within whole = record {
  answer = moment;
  was_answered = answer;
  exact = ap (λ (a : Option ℕ). split (unwrap_or a 0) (switched t) now) answer;
  within = within;
  whole = whole;
  was_pending = ap (λ (p : Option Bool). is_some p) wish;
  in_turn = counted ∙ ap (λ (p : Option Bool). owing p (reports t)) wish;
}

-- the last report, and what is sent after it
last_fits : (t : List Happening) (now moment : ℕ) (wish : Option Bool) (items : List Item) → pending t ≡ wish → answered t ≡ Some moment
    → periods t ≡ owing (pending t) (reports t) → IsAhead Active t now → AllLast t now items → AllLast t now (last_report_sent t now ++ items)
last_fits t now moment None items is answer counted quiet rest =
    subst (λ (p : Option Bool). AllLast t now ((if is_some p then report t now false ∷ [] else []) ++ items)) (sym is) rest
last_fits t now moment (Some release) items is answer counted quiet rest =
    let runs : tcp_due t Active ≡ Some (moment + granted t) = rw (is, answer) refl in
    let ahead = quiet (moment + granted t) runs in
    subst (λ (p : Option Bool). AllLast t now ((if is_some p then report t now false ∷ [] else []) ++ items)) (sym is)
    ((fits t now moment release false answer is counted (omega arith) (λ same. absurd (cc)), refl), rest)

takes_by_mode : (t : List Happening) (now : ℕ) (input : Input) (e : Event) (leg : Option Leg) (mode : Mode) → Takes t now input (Ok (by_mode e leg mode))
takes_by_mode t now input e leg Interrupted = (tt, (tt, tt))
takes_by_mode t now input e leg NotifyAndContinue = (tt, (tt, (tt, tt)))
takes_by_mode t now input e leg Transparent = (tt, (tt, tt))

takes_invoke : (t : List Happening) (now : ℕ) (phase : SsfPhase) → KnownOf phase t → IsAhead phase t now → Takes t now Invoke (on_invoke phase)
takes_invoke t now Unused k quiet = (k, tt)
takes_invoke t now Requested k quiet = tt
takes_invoke t now Initial k quiet = tt
takes_invoke t now Early k quiet = tt
takes_invoke t now Active k quiet = tt
takes_invoke t now Down k quiet = tt
takes_invoke t now Ended k quiet = tt

takes_trigger : (t : List Happening) (now : ℕ) (call : ℕ) (calling called : Number) (phase : SsfPhase) → KnownOf phase t → IsAhead phase t now → Takes t now (Trigger call calling called) (on_trigger call calling called phase)
takes_trigger t now call calling called Unused k quiet = tt
takes_trigger t now call calling called Requested k quiet = (k, (tt, tt))
takes_trigger t now call calling called Initial k quiet = tt
takes_trigger t now call calling called Early k quiet = tt
takes_trigger t now call calling called Active k quiet = tt
takes_trigger t now call calling called Down k quiet = tt
takes_trigger t now call calling called Ended k quiet = tt

takes_request : (t : List Happening) (now : ℕ) (arms : Arms) (phase : SsfPhase) → KnownOf phase t → IsAhead phase t now → Takes t now (Operate (RequestReport arms)) (on_request_report phase)
takes_request t now arms Unused k quiet = tt
takes_request t now arms Requested k quiet = tt
takes_request t now arms Initial k quiet = (k, tt)
takes_request t now arms Early k quiet = (k, tt)
takes_request t now arms Active k quiet = (k, tt)
takes_request t now arms Down k quiet = (tt, tt)
takes_request t now arms Ended k quiet = tt

takes_first : (t : List Happening) (now : ℕ) (charge : Charge) (wish : Option Bool) → pending t ≡ wish → answered t ≡ None → periods t ≡ owing (pending t) (reports t)
    → Takes t now (Operate (ApplyCharging charge)) (first_period wish Initial) × Takes t now (Operate (ApplyCharging charge)) (first_period wish Early)
takes_first t now charge None is answer counted =
    let more = ap (λ n. 1 + n) (counted ∙ ap (λ (p : Option Bool). owing p (reports t)) is) in (((answer, more), tt), ((answer, more), tt))
takes_first t now charge (Some release) is answer counted = (tt, tt)

takes_further : (t : List Happening) (now : ℕ) (charge : Charge) (end : Option ℕ) (fits : Bool) → period_end t ≡ end → KnownOf Active t
    → Takes t now (Operate (ApplyCharging charge)) (further_period end fits)
takes_further t now charge None fits is k = tt
takes_further t now charge (Some d) true is k =
    ((k.0, ap (λ n. 1 + n) (k.1 ∙ ap (λ (p : Option Bool). owing p (reports t)) (ended_none t d is))), tt)
takes_further t now charge (Some d) false is k = tt

takes_charging : (t : List Happening) (now : ℕ) (charge : Charge) (phase : SsfPhase) → KnownOf phase t → IsAhead phase t now → Takes t now (Operate (ApplyCharging charge)) (on_apply_charging t now charge phase)
takes_charging t now charge Unused k quiet = tt
takes_charging t now charge Requested k quiet = tt
takes_charging t now charge Initial k quiet = (takes_first t now charge (pending t) refl k.0 k.1).0
takes_charging t now charge Early k quiet = (takes_first t now charge (pending t) refl k.0 k.1).1
takes_charging t now charge Active k quiet = takes_further t now charge (period_end t) (is_fitting (unwrap_or (answered t) 0) (granted t) charge.period now) refl k
takes_charging t now charge Down k quiet = tt
takes_charging t now charge Ended k quiet = tt

takes_going_on : (t : List Happening) (now : ℕ) (watched : Bool) → KnownOf Early t
    → Takes t now (Operate Continue) (Ok (if watched then goes (Proceed ∷ []) Early else ends (Proceed ∷ [])))
takes_going_on t now true k = (k, (tt, tt))
takes_going_on t now false k = (tt, (tt, (tt, tt)))

takes_continue : (t : List Happening) (now : ℕ) (phase : SsfPhase) → KnownOf phase t → IsAhead phase t now → Takes t now (Operate Continue) (on_continue t phase)
takes_continue t now Unused k quiet = tt
takes_continue t now Requested k quiet = tt
takes_continue t now Initial k quiet = takes_going_on t now (any_watched (mode_at t) || is_some (pending t)) k
takes_continue t now Early k quiet = tt
takes_continue t now Active k quiet = tt
takes_continue t now Down k quiet = (tt, (tt, (tt, tt)))
takes_continue t now Ended k quiet = tt

takes_release : (t : List Happening) (now : ℕ) (cause : Cause) (phase : SsfPhase) → KnownOf phase t → IsAhead phase t now → Takes t now (Operate (ReleaseCall cause)) (on_release_call t now cause phase)
takes_release t now cause Unused k quiet = tt
takes_release t now cause Requested k quiet = tt
takes_release t now cause Initial k quiet = (tt, (tt, (tt, tt)))
takes_release t now cause Early k quiet = (tt, (tt, (tt, tt)))
takes_release t now cause Active k quiet = (tt, last_fits t now k.0.0 (pending t) (Clear cause ∷ Msg message.Ended ∷ []) refl k.0.1 k.1 quiet (tt, (tt, tt)))
takes_release t now cause Down k quiet = (tt, (tt, (tt, tt)))
takes_release t now cause Ended k quiet = tt

takes_failure : (t : List Happening) (now : ℕ) (input : Input) (e : Event) (mode : Mode) (phase : SsfPhase) → KnownOf phase t → IsAhead phase t now → Takes t now input (on_failure e mode phase)
takes_failure t now input e mode Unused k quiet = tt
takes_failure t now input e mode Requested k quiet = tt
takes_failure t now input e mode Initial k quiet = tt
takes_failure t now input e mode Early k quiet = takes_by_mode t now input e None mode
takes_failure t now input e mode Active k quiet = tt
takes_failure t now input e mode Down k quiet = tt
takes_failure t now input e mode Ended k quiet = tt

takes_answered : (t : List Happening) (now : ℕ) (mode : Mode) → KnownOf Early t → Takes t now (Meet met.Answer) (Ok (goes (notified event.Answer mode) Active))
takes_answered t now Interrupted k = (((now, refl), k.1), tt)
takes_answered t now NotifyAndContinue k = (((now, refl), k.1), (tt, tt))
takes_answered t now Transparent k = (((now, refl), k.1), tt)

takes_answer : (t : List Happening) (now : ℕ) (mode : Mode) (phase : SsfPhase) → KnownOf phase t → IsAhead phase t now → Takes t now (Meet met.Answer) (on_answer mode phase)
takes_answer t now mode Unused k quiet = tt
takes_answer t now mode Requested k quiet = tt
takes_answer t now mode Initial k quiet = tt
takes_answer t now mode Early k quiet = takes_answered t now mode k
takes_answer t now mode Active k quiet = tt
takes_answer t now mode Down k quiet = tt
takes_answer t now mode Ended k quiet = tt

takes_given_up : (t : List Happening) (now : ℕ) (mode : Mode) → Takes t now (Meet met.Abandon) (Ok (ends (notified event.Abandon mode)))
takes_given_up t now Interrupted = (tt, (tt, tt))
takes_given_up t now NotifyAndContinue = (tt, (tt, (tt, tt)))
takes_given_up t now Transparent = (tt, (tt, tt))

takes_abandon : (t : List Happening) (now : ℕ) (mode : Mode) (phase : SsfPhase) → KnownOf phase t → IsAhead phase t now → Takes t now (Meet met.Abandon) (on_abandon mode phase)
takes_abandon t now mode Unused k quiet = tt
takes_abandon t now mode Requested k quiet = tt
takes_abandon t now mode Initial k quiet = takes_given_up t now mode
takes_abandon t now mode Early k quiet = takes_given_up t now mode
takes_abandon t now mode Active k quiet = tt
takes_abandon t now mode Down k quiet = tt
takes_abandon t now mode Ended k quiet = tt

takes_hung_up : (t : List Happening) (now : ℕ) (leg : Leg) (mode : Mode) → KnownOf Active t → IsAhead Active t now
    → Takes t now (Meet (met.Disconnect leg)) (Ok (sent_before (last_report_sent t now) (by_mode event.Disconnect (Some leg) mode)))
takes_hung_up t now leg Interrupted k quiet = (tt, last_fits t now k.0.0 (pending t) (Msg (message.EventReport event.Disconnect (Some leg) Interrupted) ∷ []) refl k.0.1 k.1 quiet (tt, tt))
takes_hung_up t now leg NotifyAndContinue k quiet = (tt, last_fits t now k.0.0 (pending t) (Msg (message.EventReport event.Disconnect (Some leg) NotifyAndContinue) ∷ Msg message.Ended ∷ []) refl k.0.1 k.1 quiet (tt, (tt, tt)))
takes_hung_up t now leg Transparent k quiet = (tt, last_fits t now k.0.0 (pending t) (Msg message.Ended ∷ []) refl k.0.1 k.1 quiet (tt, tt))

takes_disconnect : (t : List Happening) (now : ℕ) (leg : Leg) (phase : SsfPhase) → KnownOf phase t → IsAhead phase t now → Takes t now (Meet (met.Disconnect leg)) (on_disconnect t now leg phase)
takes_disconnect t now leg Unused k quiet = tt
takes_disconnect t now leg Requested k quiet = tt
takes_disconnect t now leg Initial k quiet = tt
takes_disconnect t now leg Early k quiet = tt
takes_disconnect t now leg Active k quiet = takes_hung_up t now leg (mode_at t (point.Disconnect leg)) k quiet
takes_disconnect t now leg Down k quiet = tt
takes_disconnect t now leg Ended k quiet = tt

takes_input : (t : List Happening) (now : ℕ) (phase : SsfPhase) (input : Input) → KnownOf phase t → IsAhead phase t now → Takes t now input (on_input t phase now input)
takes_input t now phase Invoke k quiet = takes_invoke t now phase k quiet
takes_input t now phase (Trigger call calling called) k quiet = takes_trigger t now call calling called phase k quiet
takes_input t now phase (Operate (RequestReport arms)) k quiet = takes_request t now arms phase k quiet
takes_input t now phase (Operate (ApplyCharging charge)) k quiet = takes_charging t now charge phase k quiet
takes_input t now phase (Operate Continue) k quiet = takes_continue t now phase k quiet
takes_input t now phase (Operate (ReleaseCall cause)) k quiet = takes_release t now cause phase k quiet
takes_input t now phase (Meet met.RouteSelectFailure) k quiet =
    takes_failure t now (Meet met.RouteSelectFailure) event.RouteSelectFailure (mode_at t point.RouteSelectFailure) phase k quiet
takes_input t now phase (Meet met.Busy) k quiet = takes_failure t now (Meet met.Busy) event.CalledPartyBusy (mode_at t point.CalledPartyBusy) phase k quiet
takes_input t now phase (Meet met.NoAnswer) k quiet = takes_failure t now (Meet met.NoAnswer) event.NoAnswer (mode_at t point.NoAnswer) phase k quiet
takes_input t now phase (Meet met.Answer) k quiet = takes_answer t now (mode_at t point.Answer) phase k quiet
takes_input t now phase (Meet (met.Disconnect leg)) k quiet = takes_disconnect t now leg phase k quiet
takes_input t now phase (Meet met.Abandon) k quiet = takes_abandon t now (mode_at t point.Abandon) phase k quiet

-- the end of a period
keeps_period : (t : List Happening) (now : ℕ) (wish : Option Bool) (answer : Option ℕ) → pending t ≡ wish → answered t ≡ answer → period_due wish answer (granted t) ≡ Some now
    → KnownOf Active t → Keeps t now (Expired Tcp) (on_period_end t now (unwrap_or wish false))
keeps_period t now None answer is at runs k = absurd (cc)
keeps_period t now (Some release) None is at runs k = absurd (cc)
keeps_period t now (Some true) (Some moment) is at runs k =
    let same : moment + granted t ≡ now = cc in
    (tt, (fits t now moment true false at is k.1 (omega arith) (λ goes_on. sym same), (tt, (tt, tt))))
keeps_period t now (Some false) (Some moment) is at runs k =
    let same : moment + granted t ≡ now = cc in
    ((k.0, k.1 ∙ ap (λ (p : Option Bool). owing p (reports t)) is), (fits t now moment false true at is k.1 (omega arith) (λ goes_on. sym same), tt))

pub keeps_tcp : (t : List Happening) (now : ℕ) (phase : SsfPhase) → KnownOf phase t → tcp_due t phase ≡ Some now
    → Keeps t now (Expired Tcp) (on_period_end t now (unwrap_or (pending t) false))
keeps_tcp t now Unused k runs = absurd (cc)
keeps_tcp t now Requested k runs = absurd (cc)
keeps_tcp t now Initial k runs = absurd (cc)
keeps_tcp t now Early k runs = absurd (cc)
keeps_tcp t now Active k runs = keeps_period t now (pending t) (answered t) refl refl runs k
keeps_tcp t now Down k runs = absurd (cc)
keeps_tcp t now Ended k runs = absurd (cc)

keeps_tssf : (t : List Happening) (now : ℕ) (default : DefaultHandling) → Keeps t now (Expired Tssf) (on_tssf default)
keeps_tssf t now handling.Proceed = (tt, (tt, (tt, tt)))
keeps_tssf t now handling.Release = (tt, (tt, (tt, tt)))

keeps_expiry : (config : SsfConfig) (t : List Happening) (now : ℕ) (phase : SsfPhase) (timer : Timer) → KnownOf phase t → due_in config t phase timer ≡ Some now
    → Keeps t now (Expired timer) (on_expiry config.default_handling t phase now timer)
keeps_expiry config t now phase Tsw k runs = (k, tt)
keeps_expiry config t now phase Tcp k runs = keeps_tcp t now phase k runs
keeps_expiry config t now phase Tccd k runs = (tt, (tt, (tt, tt)))
keeps_expiry config t now phase Tssf k runs = keeps_tssf t now config.default_handling

-- a happening leaves what is known, and its reports fit
abbrev Follows : SsfConfig → List Happening → ℕ → What → List Item → Type 0
Follows config t now what sent =
    Known (next_phase config t (phase_after config t) now what) (answered_after what now (answered t)) (pending_after what (pending t)) (periods_after what (periods t))
    (reports_after sent (reports t))
    × AllFit t now sent

pub taken : (config : SsfConfig) (t : List Happening) (now : ℕ) (input : Input) (sent : List Item) → KnownOf (phase_after config t) t
    → ((timer : Timer) (d : ℕ) → due config t timer ≡ Some d → now < d) → HasEffect config t now (Took input) sent
    → Known (next_phase config t (phase_after config t) now (Took input)) (answered_after (Took input) now (answered t)) (pending_after (Took input) (pending t))
    (periods_after (Took input) (periods t)) (reports_after sent (reports t))
    × AllLast t now sent
taken config t now input sent k ahead has =
    let (effect, takes, same) = has in
    let kept : Takes t now input (Ok effect) = subst (λ (r : Result Effect SsfFault). Takes t now input r) takes (takes_input t now (phase_after config t) input k (ahead Tcp)) in
    rw (takes, same) kept

follows : (config : SsfConfig) (t : List Happening) (now : ℕ) (what : What) (sent : List Item) → KnownOf (phase_after config t) t
    → ((timer : Timer) (d : ℕ) → due config t timer ≡ Some d → ComesBefore now what d timer) → HasEffect config t now what sent → Follows config t now what sent
follows config t now (Took input) sent k ahead has = let kept = taken config t now input sent k ahead has in (kept.0, last_fit t now sent kept.1)
follows config t now (Expired timer) sent k ahead has = let (runs, same) = has in rw same (keeps_expiry config t now (phase_after config t) timer k runs)

pub known : (config : SsfConfig) (t : List Happening) → IsTrace config t → KnownOf (phase_after config t) t
known config [] is = (refl, refl)
known config (e ∷ t) is = (follows config t e.at e.what e.sent (known config t is.0) is.1.none_missed is.1.has_effect).0

pub reports_fit : EachReportFits
reports_fit config [] is = tt
reports_fit config (e ∷ t) is = (reports_fit config t is.0, (follows config t e.at e.what e.sent (known config t is.0) is.1.none_missed is.1.has_effect).1)
