-- How the meter of a call moves.
use Rattle.std.proofs.Common.{◌≡◌, ◌++◌, ◌≤◌, ◌<◌, ◌⊎◌, inl, inr, ℕ, Bool, true, false, Option, Some, None, Result, Ok, Err, List, [], ◌∷◌, refl, sym, ap, subst, ◌∙◌, arith, append_assoc}
use Rattle.std.proofs.Math.Nat.{le_refl, le_trans}
use Rattle.std.proofs.lemmas.Bool.{cases_lt}
use Rattle.std.proofs.lemmas.List.{append-nil, append_cancel_left}
use Rattle.std.specs.Prelude.{is_some, unwrap_or, ⊤}
use Rattle.cap_values.specs.Orders.{Period}
use Rattle.cap_values.specs.CauseValues.{temporary_failure}
use Rattle.cap_values.specs.declared.message.SsfMsg.TheVariants as message
use Rattle.cap_values.specs.declared.operation.ScfOp.TheVariants.{RequestReport, ApplyCharging, Continue, ReleaseCall}
use Rattle.price_core.specs.declared.times.TimeInfo.{TimeInfo}
use Rattle.ssf_core.specs.Calls.{Advances, AreExpiries, IsExpiry, RunsUntil, Stands, TakesAt, View, with_input}
use Rattle.ssf_core.specs.Happenings.{Happening, What, Took, Expired, sent_at, sent_in}
use Rattle.ssf_core.specs.Laws.{AllFit, FitsTrace}
use Rattle.ssf_core.specs.Meters.{EndsMeter, Later, Meter, Metered, Reports, RunsThrough, MetersItem, meter_at, meter_of, periods_of}
use Rattle.ssf_core.specs.Phases.{SsfPhase, Unused, Requested, Initial, Early, Active, Down, Ended}
use Rattle.ssf_core.specs.Quantities.{granted, granted_after, last_happening_moment, pending, pending_after, started_switch, switch_due, switch_due_after, switched, switched_after}
use Rattle.ssf_core.specs.Rules.{Effect, on_expiry, on_input, on_period_end, on_tssf}
use Rattle.ssf_core.specs.Traces.{ComesBefore, HasEffect, IsTrace, awaited_switch, due, phase_after, tsw_due}
use Rattle.ssf_core.specs.declared.config.DefaultHandling.{DefaultHandling}
use Rattle.ssf_core.specs.declared.config.DefaultHandling.TheVariants as handling
use Rattle.ssf_core.specs.declared.config.SsfConfig.{SsfConfig}
use Rattle.ssf_core.specs.declared.fault.SsfFault.{SsfFault}
use Rattle.ssf_core.specs.declared.ssf.Input.{Input}
use Rattle.ssf_core.specs.declared.ssf.Input.TheVariants.{Invoke, Trigger, Operate, Meet}
use Rattle.ssf_core.specs.declared.item.Item.{Item}
use Rattle.ssf_core.specs.declared.item.Item.TheVariants.{Msg, Proceed, Clear}
use Rattle.ssf_core.specs.declared.item.Out.{Out}
use Rattle.ssf_core.specs.declared.timers.Timer.{Timer}
use Rattle.ssf_core.specs.declared.timers.Timer.TheVariants.{Tsw, Tcp, Tccd, Tssf}
use Rattle.ssf_core.proofs.LawLemmas.{AllLast, KnownOf, keeps_tcp, known, taken}
use Rattle.ssf_core.proofs.StayLemmas.{answer_next, switch_next}

-- a switch that came lies no later than a moment, and was set
abbrev Sound : List Happening → ℕ → Type 0
Sound t now = (moment : ℕ) → switched t ≡ Some moment → (moment ≤ now) × (is_some (switch_due t) ≡ true)

set_kept : (seconds : Option ℕ) (now moment : ℕ) (before : Option ℕ) → is_some before ≡ true → is_some (started_switch seconds now (Some moment) before) ≡ true
set_kept None now moment before set = set
set_kept (Some seconds) now moment before set = set

was_set : (came set : Option ℕ) (d : ℕ) → awaited_switch came set ≡ Some d → is_some set ≡ true
was_set None set d runs = ap (λ (x : Option ℕ). is_some x) runs
was_set (Some moment) set d runs = absurd (cc)

tsw_set : (t : List Happening) (phase : SsfPhase) (d : ℕ) → tsw_due t phase ≡ Some d → is_some (switch_due t) ≡ true
tsw_set t Unused d runs = absurd (cc)
tsw_set t Requested d runs = absurd (cc)
tsw_set t Initial d runs = was_set (switched t) (switch_due t) d runs
tsw_set t Early d runs = was_set (switched t) (switch_due t) d runs
tsw_set t Active d runs = was_set (switched t) (switch_due t) d runs
tsw_set t Down d runs = absurd (cc)
tsw_set t Ended d runs = absurd (cc)

sound_next : (config : SsfConfig) (t : List Happening) (now : ℕ) (what : What) (sent : List Item) → Sound t (last_happening_moment t) → last_happening_moment t ≤ now
    → HasEffect config t now what sent → Sound (record { at = now; what = what; sent = sent } ∷ t) now
sound_next config t now (Took Invoke) sent before order has moment is = (le_trans (before moment is).0 order, (before moment is).1)
sound_next config t now (Took (Trigger call calling called)) sent before order has moment is = (le_trans (before moment is).0 order, (before moment is).1)
sound_next config t now (Took (Operate (RequestReport arms))) sent before order has moment is = (le_trans (before moment is).0 order, (before moment is).1)
sound_next config t now (Took (Operate (ApplyCharging charge))) sent before order has moment is = (
  le_trans (before moment is).0 order,
  subst (λ (came : Option ℕ). is_some (started_switch charge.switch now came (switch_due t)) ≡ true) (sym is)
      (set_kept charge.switch now moment (switch_due t) (before moment is).1),
)
sound_next config t now (Took (Operate Continue)) sent before order has moment is = (le_trans (before moment is).0 order, (before moment is).1)
sound_next config t now (Took (Operate (ReleaseCall cause))) sent before order has moment is = (le_trans (before moment is).0 order, (before moment is).1)
sound_next config t now (Took (Meet e)) sent before order has moment is = (le_trans (before moment is).0 order, (before moment is).1)
sound_next config t now (Expired Tsw) sent before order has moment is =
    let (runs, same) = has in
    let now_is : now ≡ moment = cc in (omega (arith, now_is), tsw_set t (phase_after config t) now runs)
sound_next config t now (Expired Tcp) sent before order has moment is = (le_trans (before moment is).0 order, (before moment is).1)
sound_next config t now (Expired Tccd) sent before order has moment is = (le_trans (before moment is).0 order, (before moment is).1)
sound_next config t now (Expired Tssf) sent before order has moment is = (le_trans (before moment is).0 order, (before moment is).1)

sound : (config : SsfConfig) (t : List Happening) → IsTrace config t → Sound t (last_happening_moment t)
sound config [] is moment some = absurd (cc)
sound config (e ∷ t) is moment some = sound_next config t e.at e.what e.sent (sound config t is.0) is.1.in_order is.1.has_effect moment some

-- a meter is later than itself, and time passes
passes : (t : List Happening) (before now : ℕ) → Sound t now → before ≤ now → Later (meter_at t before) (meter_at t now)
passes t before now sound order = record {
  same_granted = refl;
  none_pending = λ none. none;
  same_awaited = refl;
  keeps_answer = λ moment is. is;
  keeps_switch = λ moment is. is;
  comes = λ moment is. inl is;
  came = sound;
  no_fall = order;
}

comes_both : (a b : Meter) (moment : ℕ) → Later a b → (b.switched ≡ Some moment) ⊎ (b.last ≤ moment) → (a.switched ≡ Some moment) ⊎ (a.last ≤ moment)
comes_both a b moment later (inl is) = later.comes moment is
comes_both a b moment later (inr order) = inr (le_trans later.no_fall order)

later_both : (a b c : Meter) → Later a b → Later b c → Later a c
later_both a b c first second = record {
  same_granted = second.same_granted ∙ first.same_granted;
  none_pending = λ none. second.none_pending (first.none_pending none);
  same_awaited = second.same_awaited ∙ first.same_awaited;
  keeps_answer = λ moment is. second.keeps_answer moment (first.keeps_answer moment is);
  keeps_switch = λ moment is. second.keeps_switch moment (first.keeps_switch moment is);
  comes = λ moment is. comes_both a b moment first (second.comes moment is);
  came = second.came;
  no_fall = le_trans first.no_fall second.no_fall;
}

-- what was run later was run
runs_later : (orders : List Period) (a b c : Meter) (outs : List Out) → Later a b → RunsThrough orders b outs c → RunsThrough orders a outs c
runs_later orders a b c [] later run = (run.0, (later_both a b run.0 later run.1.0, run.1.1))
runs_later orders a b c (out ∷ outs) later run = (run.0, (later_both a b run.0 later run.1.0, run.1.1))

runs_both : (orders : List Period) (a b c : Meter) (first second : List Out) → RunsThrough [] a first b → RunsThrough orders b second c → RunsThrough orders a (first ++ second) c
runs_both orders a b c [] second run next = runs_later orders a b c second (later_both a run.0 b run.1.0 run.1.1) next
runs_both orders a b c (out ∷ first) second run next =
    (run.0, (run.1.0, (run.1.1.0, (run.1.1.1.0, runs_both orders run.1.1.0 b c first second run.1.1.1.1 next))))

-- an input that isn't an order of a period, or an expiry, makes the meter later
comes_next : (t : List Happening) (now : ℕ) (what : What) (moment : ℕ) → switched_after what now (switched t) ≡ Some moment
    → (switched t ≡ Some moment) ⊎ (now ≤ moment)
comes_next t now (Took input) moment is = inl is
comes_next t now (Expired Tsw) moment is = let same : now ≡ moment = cc in inr (omega (arith, same))
comes_next t now (Expired Tcp) moment is = inl is
comes_next t now (Expired Tccd) moment is = inl is
comes_next t now (Expired Tssf) moment is = inl is

later_next : (config : SsfConfig) (t : List Happening) (now : ℕ) (what : What) (sent : List Item) → KnownOf (phase_after config t) t
    → Sound (record { at = now; what = what; sent = sent } ∷ t) now → HasEffect config t now what sent → granted_after what (granted t) ≡ granted t
    → (is_some (pending t) ≡ false → is_some (pending_after what (pending t)) ≡ false)
    → is_some (switch_due_after what now (switched t) (switch_due t)) ≡ is_some (switch_due t)
    → Later (meter_at t now) (meter_of (record { at = now; what = what; sent = sent } ∷ t))
later_next config t now what sent k sound has same none awaited = record {
  same_granted = same;
  none_pending = none;
  same_awaited = awaited;
  keeps_answer = λ moment is. answer_next config t now what sent moment k has is;
  keeps_switch = λ moment is. switch_next config t now what sent moment has is;
  comes = λ moment is. comes_next t now what moment is;
  came = sound;
  no_fall = le_refl now;
}

ordered : (seconds : Option ℕ) (now : ℕ) (came before : Option ℕ) → is_some (started_switch seconds now came before) ≡ true
    → (is_some before ≡ true) ⊎ (is_some seconds ≡ true)
ordered None now came before is = inl is
ordered (Some seconds) now came before is = inr refl

ends_next : (config : SsfConfig) (t : List Happening) (now : ℕ) (what : What) (sent : List Item) → KnownOf (phase_after config t) t
    → Sound (record { at = now; what = what; sent = sent } ∷ t) now → HasEffect config t now what sent
    → EndsMeter (periods_of what) (meter_at t now) (meter_of (record { at = now; what = what; sent = sent } ∷ t))
ends_next config t now (Took Invoke) sent k sound has = later_next config t now (Took Invoke) sent k sound has refl (λ none. none) refl
ends_next config t now (Took (Trigger call calling called)) sent k sound has = later_next config t now (Took (Trigger call calling called)) sent k sound has refl (λ none. none) refl
ends_next config t now (Took (Operate (RequestReport arms))) sent k sound has = later_next config t now (Took (Operate (RequestReport arms))) sent k sound has refl (λ none. none) refl
ends_next config t now (Took (Operate (ApplyCharging charge))) sent k sound has = inr (record {
  more_granted = refl;
  ordered = ordered charge.switch now (switched t) (switch_due t);
  same_answer = refl;
  same_switch = refl;
  came = sound;
  no_fall = le_refl now;
})
ends_next config t now (Took (Operate Continue)) sent k sound has = later_next config t now (Took (Operate Continue)) sent k sound has refl (λ none. none) refl
ends_next config t now (Took (Operate (ReleaseCall cause))) sent k sound has = later_next config t now (Took (Operate (ReleaseCall cause))) sent k sound has refl (λ none. none) refl
ends_next config t now (Took (Meet e)) sent k sound has = later_next config t now (Took (Meet e)) sent k sound has refl (λ none. none) refl
ends_next config t now (Expired Tsw) sent k sound has = later_next config t now (Expired Tsw) sent k sound has refl (λ none. none) refl
ends_next config t now (Expired Tcp) sent k sound has = later_next config t now (Expired Tcp) sent k sound has refl (λ none. refl) refl
ends_next config t now (Expired Tccd) sent k sound has = later_next config t now (Expired Tccd) sent k sound has refl (λ none. none) refl
ends_next config t now (Expired Tssf) sent k sound has = later_next config t now (Expired Tssf) sent k sound has refl (λ none. none) refl

-- items that leave the meter as it is
abbrev AllSend : Meter → ℕ → List Item → Type 0
AllSend meter now [] = ⊤
AllSend meter now (item ∷ items) = MetersItem meter now item meter × AllSend meter now items

runs_items : (orders : List Period) (meter after : Meter) (now : ℕ) (items : List Item) → Later meter meter → AllSend meter now items → EndsMeter orders meter after
    → RunsThrough orders meter (sent_at now items) after
runs_items orders meter after now [] same all ends = (meter, (same, ends))
runs_items orders meter after now (item ∷ items) same all ends =
    (meter, (same, (meter, (all.0, runs_items orders meter after now items same all.1 ends))))

reports_last : (t : List Happening) (now : ℕ) (active : Bool) (info : TimeInfo) → Sound t now → FitsTrace t now active info → active ≡ false
    → Reports (meter_at t now) now active info (meter_at t now)
reports_last t now active info sound fits last = record {
  answer = fits.answer;
  was_answered = fits.was_answered;
  exact = fits.exact;
  within = fits.within;
  whole = fits.whole;
  was_pending = fits.was_pending;
  last = le_refl now;
  behind = λ moment is. (sound moment is).0;
  ends = λ goes_on. absurd (cc);
  later = passes t now now sound (le_refl now);
  same_switch = refl;
  moment = le_refl now;
}

all_send : (t : List Happening) (now : ℕ) (items : List Item) → Sound t now → AllLast t now items → AllSend (meter_at t now) now items
all_send t now [] sound last = tt
all_send t now (Msg (message.ChargingReport active info) ∷ items) sound last =
    (reports_last t now active info sound last.0.0 last.0.1, all_send t now items sound last.1)
all_send t now (Msg (message.InitialDp call calling called) ∷ items) sound last = (passes t now now sound (le_refl now), all_send t now items sound last.1)
all_send t now (Msg (message.EventReport e leg mode) ∷ items) sound last = (passes t now now sound (le_refl now), all_send t now items sound last.1)
all_send t now (Msg message.Ended ∷ items) sound last = (passes t now now sound (le_refl now), all_send t now items sound last.1)
all_send t now (Proceed ∷ items) sound last = (passes t now now sound (le_refl now), all_send t now items sound last.1)
all_send t now (Clear cause ∷ items) sound last = (passes t now now sound (le_refl now), all_send t now items sound last.1)

-- the end of a period
runs_period : (t : List Happening) (now : ℕ) (wish : Bool) (after : Meter) → Sound t now → AllFit t now (on_period_end t now wish).sent
    → Later (meter_at t now) after → after.pending ≡ false → after.switched ≡ switched t → after.last ≡ now → Later after after
    → RunsThrough [] (meter_at t now) (sent_at now (on_period_end t now wish).sent) after
runs_period t now true after sound fit later none came at same =
    let same_meter = passes t now now sound (le_refl now) in
    runs_items [] (meter_at t now) after now (on_period_end t now true).sent same_meter
    (reports_last t now false _ sound fit.0 refl, (same_meter, (same_meter, tt))) later
runs_period t now false after sound fit later none came at same =
    let fits = fit.0 in
    let reports : Reports (meter_at t now) now true _ after = record {
      answer = fits.answer;
      was_answered = fits.was_answered;
      exact = fits.exact;
      within = fits.within;
      whole = fits.whole;
      was_pending = fits.was_pending;
      last = le_refl now;
      behind = λ moment is. (sound moment is).0;
      ends = λ goes_on. none;
      later = later;
      same_switch = came;
      moment = omega (arith, at);
    } in
    (meter_at t now, (passes t now now sound (le_refl now), (after, (reports, (after, (same, same))))))

-- the default handling
runs_default : (t : List Happening) (now : ℕ) (default : DefaultHandling) (after : Meter) → Later (meter_at t now) (meter_at t now) → Later (meter_at t now) after
    → RunsThrough [] (meter_at t now) (sent_at now (on_tssf default).sent) after
runs_default t now handling.Proceed after same later = runs_items [] (meter_at t now) after now (Proceed ∷ Msg message.Ended ∷ []) same (same, (same, tt)) later
runs_default t now handling.Release after same later =
    runs_items [] (meter_at t now) after now (Clear temporary_failure ∷ Msg message.Ended ∷ []) same (same, (same, tt)) later

-- the items of an expiry
runs_expiry : (config : SsfConfig) (t : List Happening) (now : ℕ) (timer : Timer) (sent : List Item) → KnownOf (phase_after config t) t → Sound t now
    → Sound (record { at = now; what = Expired timer; sent = sent } ∷ t) now → due config t timer ≡ Some now → HasEffect config t now (Expired timer) sent
    → RunsThrough [] (meter_at t now) (sent_at now (on_expiry config.default_handling t (phase_after config t) now timer).sent)
    (meter_of (record { at = now; what = Expired timer; sent = sent } ∷ t))
runs_expiry config t now Tsw sent k before sound runs has =
    runs_items [] (meter_at t now) (meter_of (record { at = now; what = Expired Tsw; sent = sent } ∷ t)) now [] (passes t now now before (le_refl now)) tt
    (ends_next config t now (Expired Tsw) sent k sound has)
runs_expiry config t now Tcp sent k before sound runs has =
    let after = meter_of (record { at = now; what = Expired Tcp; sent = sent } ∷ t) in
    runs_period t now (unwrap_or (pending t) false) after before (keeps_tcp t now (phase_after config t) k runs).1 (ends_next config t now (Expired Tcp) sent k sound has)
    refl refl refl (passes (record { at = now; what = Expired Tcp; sent = sent } ∷ t) now now sound (le_refl now))
runs_expiry config t now Tccd sent k before sound runs has =
    let same = passes t now now before (le_refl now) in
    runs_items [] (meter_at t now) (meter_of (record { at = now; what = Expired Tccd; sent = sent } ∷ t)) now (Clear temporary_failure ∷ Msg message.Ended ∷ []) same
    (same, (same, tt)) (ends_next config t now (Expired Tccd) sent k sound has)
runs_expiry config t now Tssf sent k before sound runs has =
    runs_default t now config.default_handling (meter_of (record { at = now; what = Expired Tssf; sent = sent } ∷ t)) (passes t now now before (le_refl now))
    (ends_next config t now (Expired Tssf) sent k sound has)

-- the items of a happening
runs_at : (config : SsfConfig) (t : List Happening) (now : ℕ) (what : What) (sent : List Item) → KnownOf (phase_after config t) t → Sound t now
    → Sound (record { at = now; what = what; sent = sent } ∷ t) now → ((timer : Timer) (d : ℕ) → due config t timer ≡ Some d → ComesBefore now what d timer)
    → HasEffect config t now what sent
    → RunsThrough (periods_of what) (meter_at t now) (sent_at now sent) (meter_of (record { at = now; what = what; sent = sent } ∷ t))
runs_at config t now (Took input) sent k before sound ahead has =
    runs_items (periods_of (Took input)) (meter_at t now) (meter_of (record { at = now; what = Took input; sent = sent } ∷ t)) now sent (passes t now now before (le_refl now))
    (all_send t now sent before (taken config t now input sent k ahead has).1) (ends_next config t now (Took input) sent k sound has)
runs_at config t now (Expired timer) sent k before sound ahead has =
    let (runs, same) = has in
    subst (λ (items : List Item). RunsThrough [] (meter_at t now) (sent_at now items) (meter_of (record { at = now; what = Expired timer; sent = sent } ∷ t))) (sym same)
    (runs_expiry config t now timer sent k before sound runs has)

-- a happening, from the meter of the trace before it
happens : (config : SsfConfig) (e : Happening) (t : List Happening) → IsTrace config (e ∷ t)
    → RunsThrough (periods_of e.what) (meter_of t) (sent_at e.at e.sent) (meter_of (e ∷ t))
happens config e t is =
    let before : Sound t e.at = λ moment some. (le_trans (sound config t is.0 moment some).0 is.1.in_order, (sound config t is.0 moment some).1) in
    runs_later (periods_of e.what) (meter_of t) (meter_at t e.at) (meter_of (e ∷ t)) (sent_at e.at e.sent)
    (passes t (last_happening_moment t) e.at before is.1.in_order)
    (runs_at config t e.at e.what e.sent (known config t is.0) before (sound config (e ∷ t) is) is.1.none_missed is.1.has_effect)

still : (config : SsfConfig) (t : List Happening) → IsTrace config t → Later (meter_of t) (meter_of t)
still config t is = passes t (last_happening_moment t) (last_happening_moment t) (sound config t is) (le_refl (last_happening_moment t))

expiry_pays : (what : What) → IsExpiry what → periods_of what ≡ []
expiry_pays (Took input) is = absurd is
expiry_pays (Expired timer) is = refl

-- expiries, and what they send
fired_sent : (config : SsfConfig) (fired t : List Happening) → AreExpiries fired → IsTrace config (fired ++ t)
    → (outs : List Out) × ((sent_in (fired ++ t) ≡ sent_in t ++ outs) × RunsThrough [] (meter_of t) outs (meter_of (fired ++ t)))
fired_sent config [] t are is = ([], (sym (append-nil (sent_in t)), (meter_of t, (still config t is, still config t is))))
fired_sent config (e ∷ fired) t are is =
    let (outs, (sends, run)) = fired_sent config fired t are.0 is.0 in
    let next : RunsThrough [] (meter_of (fired ++ t)) (sent_at e.at e.sent) (meter_of (e ∷ fired ++ t)) =
    subst (λ (orders : List Period). RunsThrough orders (meter_of (fired ++ t)) (sent_at e.at e.sent) (meter_of (e ∷ fired ++ t))) (expiry_pays e.what are.1)
    (happens config e (fired ++ t) is) in (
      outs ++ sent_at e.at e.sent,
      (
        ap (λ (sent : List Out). sent ++ sent_at e.at e.sent) sends ∙ append_assoc (sent_in t) outs (sent_at e.at e.sent),
        runs_both [] (meter_of t) (meter_of (fired ++ t)) (meter_of (e ∷ fired ++ t)) outs (sent_at e.at e.sent) run next,
      ),
    )

timed_sent : (config : SsfConfig) (now : ℕ) (t timed : List Happening) → RunsUntil config now t timed
    → (outs : List Out) × ((sent_in timed ≡ sent_in t ++ outs) × RunsThrough [] (meter_of t) outs (meter_of timed))
timed_sent config now t timed run =
    let is : IsTrace config (run.fired ++ t) = subst (λ (l : List Happening). IsTrace config l) run.follows run.is_trace in
    subst (λ (l : List Happening). (outs : List Out) × ((sent_in l ≡ sent_in t ++ outs) × RunsThrough [] (meter_of t) outs (meter_of l))) (sym run.follows)
    (fired_sent config run.fired t run.expiries is)

refused : (orders : List Period) (meter : Meter) → Later meter meter → EndsMeter orders meter meter
refused [] meter same = same
refused (period ∷ orders) meter same = inl same

-- a call that changes nothing
pub nothing_metered : (orders : List Period) (view : View) → Metered orders view [] view
nothing_metered orders view meter shows =
    let (t, (stands, is)) = shows in
    let same = still view.config t stands.is_trace in
    (meter, (shows, rw is (meter_of t, (same, refused orders (meter_of t) same))))

pub advance_metered : (before after : View) (now : ℕ) (sent : List Out) → ((t : List Happening) → Stands before t → Advances before after now t sent)
    → Metered [] before sent after
advance_metered before after now sent advances meter shows =
    let (t, (stands, is)) = shows in
    let run = advances t stands in
    let (outs, (sends, runs)) = timed_sent before.config now t run.timed run.runs in
    let same : outs ≡ sent = append_cancel_left (sent_in t) outs sent (sym sends ∙ run.sends) in
    (meter_of run.timed, ((run.timed, (run.stands, refl)), rw (is, ← same) runs))

-- an outcome of an input, and what it sends
outcome_metered : (config : SsfConfig) (after : View) (now : ℕ) (input : Input) (t : List Happening) (outcome : Result Effect SsfFault) → IsTrace config t
    → Stands after (with_input now input t outcome)
    → (rest : List Out) × ((sent_in (with_input now input t outcome) ≡ sent_in t ++ rest)
    × RunsThrough (periods_of (Took input)) (meter_of t) rest (meter_of (with_input now input t outcome)))
outcome_metered config after now input t (Ok effect) is stands =
    (sent_at now effect.sent, (refl, happens after.config (record { at = now; what = Took input; sent = effect.sent }) t stands.is_trace))
outcome_metered config after now input t (Err fault) is stands =
    ([], (sym (append-nil (sent_in t)), (meter_of t, (still config t is, refused (periods_of (Took input)) (meter_of t) (still config t is)))))

pub input_metered : (before after : View) (now : ℕ) (input : Input) (sent : List Out) (fault : Option SsfFault)
    → ((t : List Happening) → Stands before t → TakesAt before after now input t sent fault) → Metered (periods_of (Took input)) before sent after
input_metered before after now input sent fault takes meter shows =
    let (t, (stands, is)) = shows in
    let run = takes t stands in
    let (outs, (sends, runs)) = timed_sent before.config now t run.timed run.runs in
    let (rest, (all, next)) = outcome_metered before.config after now input run.timed (on_input run.timed (phase_after before.config run.timed) now input) run.runs.is_trace run.stands in
    let same : outs ++ rest ≡ sent =
    append_cancel_left (sent_in t) (outs ++ rest) sent
    (sym (append_assoc (sent_in t) outs rest) ∙ (ap (λ (l : List Out). l ++ rest) (sym sends) ∙ (sym all ∙ run.sends))) in
    let last = with_input now input run.timed (on_input run.timed (phase_after before.config run.timed) now input) in (
      meter_of last,
      (
        (last, (run.stands, refl)),
        rw (is, ← same) (runs_both (periods_of (Took input)) (meter_of t) (meter_of run.timed) (meter_of last) outs rest runs next),
      ),
    )

by_order : (before after : View) (now : ℕ) (input : Input) (sent : List Out) (fault reason : Option SsfFault)
    → (now < before.last → (after ≡ before) × (fault ≡ reason) × (sent ≡ []))
    → (before.last ≤ now → (t : List Happening) → Stands before t → TakesAt before after now input t sent fault)
    → (now < before.last) ⊎ (before.last ≤ now) → Metered (periods_of (Took input)) before sent after
by_order before after now input sent fault reason backwards trace (inl behind) =
    let (same, reason_is, none) = backwards behind in rw (same, none) (nothing_metered (periods_of (Took input)) before)
by_order before after now input sent fault reason backwards trace (inr ahead) = input_metered before after now input sent fault (trace ahead)

-- a call with an input, whether its moment lies behind or not
pub call_metered : (before after : View) (now : ℕ) (input : Input) (sent : List Out) (fault reason : Option SsfFault)
    → (now < before.last → (after ≡ before) × (fault ≡ reason) × (sent ≡ []))
    → (before.last ≤ now → (t : List Happening) → Stands before t → TakesAt before after now input t sent fault) → Metered (periods_of (Took input)) before sent after
call_metered before after now input sent fault reason backwards trace =
    by_order before after now input sent fault reason backwards trace (cases_lt now before.last)
