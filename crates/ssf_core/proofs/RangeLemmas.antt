-- The times of each charging report lie within their ranges: no more than a day is granted in all.
use Rattle.std.proofs.Common.{◌≡◌, ◌+◌, ◌-◌, ◌≤◌, ◌<◌, ℕ, Bool, true, false, Option, Some, None, Result, Ok, Err, List, [], ◌∷◌, refl, subst, arith, unwrap_or, All}
use Rattle.std.specs.Prelude.{◌||◌, ◌&&◌, if◌then◌else◌, is_some, nat_le, nat_lt, ⊤, IfSome}
use Rattle.std.proofs.lemmas.Bool.Decides.{nat_tests}
use Rattle.std.proofs.lemmas.List.Elements.{All-append, All-cons, All-nil}
use Rattle.std.proofs.lemmas.Bool.{le-leb}
use Rattle.cap_values.specs.declared.charge.Charge.{Charge}
use Rattle.cap_values.specs.declared.arms.Arms.{Arms}
use Rattle.cap_values.specs.declared.cause.Cause.{Cause}
use Rattle.cap_values.specs.declared.arming.Point.TheVariants as point
use Rattle.cap_values.specs.declared.event.Event.{Event}
use Rattle.cap_values.specs.declared.event.Event.TheVariants as event
use Rattle.cap_values.specs.declared.leg.Leg.{Leg}
use Rattle.cap_values.specs.declared.message.SsfMsg.TheVariants as message
use Rattle.cap_values.specs.declared.mode.Mode.{Mode}
use Rattle.cap_values.specs.declared.mode.Mode.TheVariants.{Interrupted, NotifyAndContinue, Transparent}
use Rattle.cap_values.specs.declared.number.Number.{Number}
use Rattle.cap_values.specs.declared.operation.ScfOp.TheVariants.{RequestReport, ApplyCharging, Continue, ReleaseCall}
use Rattle.ssf_core.proofs.LawLemmas.{reports_fit}
use Rattle.ssf_core.specs.Happenings.{Happening, What, Took, Expired, sent_at, sent_in}
use Rattle.ssf_core.specs.Laws.{AllFit, ItemIsInRange, ItemFits, ReportsAreInRange}
use Rattle.ssf_core.specs.Phases.{SsfPhase, Unused, Requested, Initial, Early, Active, Down, Ended}
use Rattle.ssf_core.specs.Quantities.{answered, granted, granted_after, last_happening_moment, mode_at, pending, pending_after, period_end, switched, switched_after}
use Rattle.ssf_core.specs.Split.{split}
use Rattle.ssf_core.specs.Rules.{Effect, sent_before, any_watched, by_mode, ends, first_period, further_period, goes, is_fitting, last_report_sent, on_abandon, on_answer, on_apply_charging, on_continue, on_disconnect, on_expiry, on_failure, on_input, on_invoke, on_period_end, on_release_call, on_request_report, on_trigger, on_tssf}
use Rattle.ssf_core.specs.Traces.{HasEffect, IsTrace, next_phase, phase_after}
use Rattle.ssf_core.specs.declared.item.BcsmEvent.{BcsmEvent}
use Rattle.ssf_core.specs.declared.item.BcsmEvent.TheVariants as met
use Rattle.ssf_core.specs.declared.config.DefaultHandling.{DefaultHandling}
use Rattle.ssf_core.specs.declared.config.DefaultHandling.TheVariants as handling
use Rattle.ssf_core.specs.declared.config.SsfConfig.{SsfConfig}
use Rattle.ssf_core.specs.declared.fault.SsfFault.{SsfFault}
use Rattle.ssf_core.specs.declared.ssf.Input.{Input}
use Rattle.ssf_core.specs.declared.ssf.Input.TheVariants.{Invoke, Trigger, Operate, Meet}
use Rattle.ssf_core.specs.declared.item.Item.{Item}
use Rattle.ssf_core.specs.declared.item.Out.{Out}
use Rattle.ssf_core.specs.declared.item.Item.TheVariants.{Msg, Proceed, Clear}
use Rattle.ssf_core.specs.declared.timers.Timer.{Timer}
use Rattle.ssf_core.specs.declared.timers.Timer.TheVariants.{Tsw, Tcp, Tccd, Tssf}
use Rattle.price_core.specs.Reading.{is_time_info}
use Rattle.price_core.specs.declared.times.TimeInfo.TheVariants as info

-- ---- the sum of the periods is a day at most

-- before the answer there is one period, or none; afterwards they are within a day
abbrev IsSum : SsfPhase → Option Bool → ℕ → Type 0
IsSum Unused wish sum = (wish ≡ None → sum ≡ 0) × (sum ≤ 864000)
IsSum Requested wish sum = (wish ≡ None → sum ≡ 0) × (sum ≤ 864000)
IsSum Initial wish sum = (wish ≡ None → sum ≡ 0) × (sum ≤ 864000)
IsSum Early wish sum = (wish ≡ None → sum ≡ 0) × (sum ≤ 864000)
IsSum Active wish sum = sum ≤ 864000
IsSum Down wish sum = sum ≤ 864000
IsSum Ended wish sum = sum ≤ 864000

abbrev SumIn : SsfPhase → List Happening → Type 0
SumIn phase t = IsSum phase (pending t) (granted t)

small : (phase : SsfPhase) (wish : Option Bool) (sum : ℕ) → IsSum phase wish sum → sum ≤ 864000
small Unused wish sum is = is.1
small Requested wish sum is = is.1
small Initial wish sum is = is.1
small Early wish sum is = is.1
small Active wish sum is = is
small Down wish sum is = is
small Ended wish sum is = is

-- an input that is taken leaves it so
abbrev Sums : List Happening → Input → Result Effect SsfFault → Type 0
Sums t input (Ok effect) = IsSum effect.next (pending_after (Took input) (pending t)) (granted_after (Took input) (granted t))
Sums t input (Err fault) = ⊤

sums_invoke : (t : List Happening) (phase : SsfPhase) → SumIn phase t → Sums t Invoke (on_invoke phase)
sums_invoke t Unused k = k
sums_invoke t Requested k = tt
sums_invoke t Initial k = tt
sums_invoke t Early k = tt
sums_invoke t Active k = tt
sums_invoke t Down k = tt
sums_invoke t Ended k = tt

sums_trigger : (t : List Happening) (call : ℕ) (calling called : Number) (phase : SsfPhase) → SumIn phase t → Sums t (Trigger call calling called) (on_trigger call calling called phase)
sums_trigger t call calling called Unused k = tt
sums_trigger t call calling called Requested k = k
sums_trigger t call calling called Initial k = tt
sums_trigger t call calling called Early k = tt
sums_trigger t call calling called Active k = tt
sums_trigger t call calling called Down k = tt
sums_trigger t call calling called Ended k = tt

sums_request : (t : List Happening) (arms : Arms) (phase : SsfPhase) → SumIn phase t → Sums t (Operate (RequestReport arms)) (on_request_report phase)
sums_request t arms Unused k = tt
sums_request t arms Requested k = tt
sums_request t arms Initial k = k
sums_request t arms Early k = k
sums_request t arms Active k = k
sums_request t arms Down k = k
sums_request t arms Ended k = tt

sums_first : (t : List Happening) (charge : Charge) (wish : Option Bool) → pending t ≡ wish → (pending t ≡ None → granted t ≡ 0)
    → Sums t (Operate (ApplyCharging charge)) (first_period wish Initial) × Sums t (Operate (ApplyCharging charge)) (first_period wish Early)
sums_first t charge None is none =
    let small : granted t + charge.period ≤ 864000 = omega (arith, none is, charge.period_within_day) in
    (((λ gone. absurd (cc)), small), ((λ gone. absurd (cc)), small))
sums_first t charge (Some release) is none = (tt, tt)

fits_both : (small ahead : Bool) (total period : ℕ) → nat_le (total + period) 864000 ≡ small → (small && ahead) ≡ true → total + period ≤ 864000
fits_both true ahead total period is both = grind (arith, nat_tests)
fits_both false ahead total period is both = cc

fitting : (answer total period now : ℕ) → is_fitting answer total period now ≡ true → total + period ≤ 864000
fitting answer total period now is = fits_both (nat_le (total + period) 864000) (nat_lt now (answer + total + period)) total period refl is

sums_further : (t : List Happening) (charge : Charge) (end : Option ℕ) (fits : Bool) → (fits ≡ true → granted t + charge.period ≤ 864000)
    → Sums t (Operate (ApplyCharging charge)) (further_period end fits)
sums_further t charge None fits within = tt
sums_further t charge (Some d) true within = within refl
sums_further t charge (Some d) false within = tt

sums_charging : (t : List Happening) (now : ℕ) (charge : Charge) (phase : SsfPhase) → SumIn phase t → Sums t (Operate (ApplyCharging charge)) (on_apply_charging t now charge phase)
sums_charging t now charge Unused k = tt
sums_charging t now charge Requested k = tt
sums_charging t now charge Initial k = (sums_first t charge (pending t) refl k.0).0
sums_charging t now charge Early k = (sums_first t charge (pending t) refl k.0).1
sums_charging t now charge Active k =
    sums_further t charge (period_end t) (is_fitting (unwrap_or (answered t) 0) (granted t) charge.period now) (fitting (unwrap_or (answered t) 0) (granted t) charge.period now)
sums_charging t now charge Down k = tt
sums_charging t now charge Ended k = tt

sums_going_on : (t : List Happening) (watched : Bool) → SumIn Initial t → Sums t (Operate Continue) (Ok (if watched then goes (Proceed ∷ []) Early else ends (Proceed ∷ [])))
sums_going_on t true k = k
sums_going_on t false k = k.1

sums_continue : (t : List Happening) (phase : SsfPhase) → SumIn phase t → Sums t (Operate Continue) (on_continue t phase)
sums_continue t Unused k = tt
sums_continue t Requested k = tt
sums_continue t Initial k = sums_going_on t (any_watched (mode_at t) || is_some (pending t)) k
sums_continue t Early k = tt
sums_continue t Active k = tt
sums_continue t Down k = k
sums_continue t Ended k = tt

sums_release : (t : List Happening) (now : ℕ) (cause : Cause) (phase : SsfPhase) → SumIn phase t → Sums t (Operate (ReleaseCall cause)) (on_release_call t now cause phase)
sums_release t now cause Unused k = tt
sums_release t now cause Requested k = tt
sums_release t now cause Initial k = k.1
sums_release t now cause Early k = k.1
sums_release t now cause Active k = k
sums_release t now cause Down k = k
sums_release t now cause Ended k = tt

sums_by_mode : (t : List Happening) (met : BcsmEvent) (e : Event) (leg : Option Leg) (mode : Mode) → granted t ≤ 864000 → Sums t (Meet met) (Ok (by_mode e leg mode))
sums_by_mode t met e leg Interrupted k = k
sums_by_mode t met e leg NotifyAndContinue k = k
sums_by_mode t met e leg Transparent k = k

sums_hung_up : (t : List Happening) (now : ℕ) (met : BcsmEvent) (leg : Option Leg) (mode : Mode) → granted t ≤ 864000
    → Sums t (Meet met) (Ok (sent_before (last_report_sent t now) (by_mode event.Disconnect leg mode)))
sums_hung_up t now met leg Interrupted k = k
sums_hung_up t now met leg NotifyAndContinue k = k
sums_hung_up t now met leg Transparent k = k

sums_failure : (t : List Happening) (met : BcsmEvent) (e : Event) (mode : Mode) (phase : SsfPhase) → SumIn phase t → Sums t (Meet met) (on_failure e mode phase)
sums_failure t met e mode Unused k = tt
sums_failure t met e mode Requested k = tt
sums_failure t met e mode Initial k = tt
sums_failure t met e mode Early k = sums_by_mode t met e None mode k.1
sums_failure t met e mode Active k = tt
sums_failure t met e mode Down k = tt
sums_failure t met e mode Ended k = tt

sums_answer : (t : List Happening) (mode : Mode) (phase : SsfPhase) → SumIn phase t → Sums t (Meet met.Answer) (on_answer mode phase)
sums_answer t mode Unused k = tt
sums_answer t mode Requested k = tt
sums_answer t mode Initial k = tt
sums_answer t mode Early k = k.1
sums_answer t mode Active k = tt
sums_answer t mode Down k = tt
sums_answer t mode Ended k = tt

sums_abandon : (t : List Happening) (mode : Mode) (phase : SsfPhase) → SumIn phase t → Sums t (Meet met.Abandon) (on_abandon mode phase)
sums_abandon t mode Unused k = tt
sums_abandon t mode Requested k = tt
sums_abandon t mode Initial k = k.1
sums_abandon t mode Early k = k.1
sums_abandon t mode Active k = tt
sums_abandon t mode Down k = tt
sums_abandon t mode Ended k = tt

sums_disconnect : (t : List Happening) (now : ℕ) (leg : Leg) (phase : SsfPhase) → SumIn phase t → Sums t (Meet (met.Disconnect leg)) (on_disconnect t now leg phase)
sums_disconnect t now leg Unused k = tt
sums_disconnect t now leg Requested k = tt
sums_disconnect t now leg Initial k = tt
sums_disconnect t now leg Early k = tt
sums_disconnect t now leg Active k = sums_hung_up t now (met.Disconnect leg) (Some leg) (mode_at t (point.Disconnect leg)) k
sums_disconnect t now leg Down k = tt
sums_disconnect t now leg Ended k = tt

sums_input : (t : List Happening) (now : ℕ) (phase : SsfPhase) (input : Input) → SumIn phase t → Sums t input (on_input t phase now input)
sums_input t now phase Invoke k = sums_invoke t phase k
sums_input t now phase (Trigger call calling called) k = sums_trigger t call calling called phase k
sums_input t now phase (Operate (RequestReport arms)) k = sums_request t arms phase k
sums_input t now phase (Operate (ApplyCharging charge)) k = sums_charging t now charge phase k
sums_input t now phase (Operate Continue) k = sums_continue t phase k
sums_input t now phase (Operate (ReleaseCall cause)) k = sums_release t now cause phase k
sums_input t now phase (Meet met.RouteSelectFailure) k = sums_failure t met.RouteSelectFailure event.RouteSelectFailure (mode_at t point.RouteSelectFailure) phase k
sums_input t now phase (Meet met.Busy) k = sums_failure t met.Busy event.CalledPartyBusy (mode_at t point.CalledPartyBusy) phase k
sums_input t now phase (Meet met.NoAnswer) k = sums_failure t met.NoAnswer event.NoAnswer (mode_at t point.NoAnswer) phase k
sums_input t now phase (Meet met.Answer) k = sums_answer t (mode_at t point.Answer) phase k
sums_input t now phase (Meet (met.Disconnect leg)) k = sums_disconnect t now leg phase k
sums_input t now phase (Meet met.Abandon) k = sums_abandon t (mode_at t point.Abandon) phase k

-- and so does a timer that expires
sums_period_end : (t : List Happening) (now : ℕ) (wish : Option Bool) (release : Bool) → granted t ≤ 864000 → IsSum (on_period_end t now release).next wish (granted t)
sums_period_end t now wish true k = k
sums_period_end t now wish false k = k

sums_tssf : (wish : Option Bool) (sum : ℕ) (default : DefaultHandling) → sum ≤ 864000 → IsSum (on_tssf default).next wish sum
sums_tssf wish sum handling.Proceed k = k
sums_tssf wish sum handling.Release k = k

sums_expiry : (default : DefaultHandling) (t : List Happening) (now : ℕ) (phase : SsfPhase) (timer : Timer) → SumIn phase t
    → IsSum (on_expiry default t phase now timer).next (pending_after (Expired timer) (pending t)) (granted_after (Expired timer) (granted t))
sums_expiry default t now phase Tsw k = k
sums_expiry default t now phase Tcp k = sums_period_end t now None (unwrap_or (pending t) false) (small phase (pending t) (granted t) k)
sums_expiry default t now phase Tccd k = small phase (pending t) (granted t) k
sums_expiry default t now phase Tssf k = sums_tssf (pending t) (granted t) default (small phase (pending t) (granted t) k)

sums_more : (config : SsfConfig) (t : List Happening) (now : ℕ) (what : What) (sent : List Item) → SumIn (phase_after config t) t → HasEffect config t now what sent
    → IsSum (next_phase config t (phase_after config t) now what) (pending_after what (pending t)) (granted_after what (granted t))
sums_more config t now (Took input) sent k has =
    let (effect, takes, same) = has in
    let kept : Sums t input (Ok effect) = subst (λ (r : Result Effect SsfFault). Sums t input r) takes (sums_input t now (phase_after config t) input k) in
    rw takes kept
sums_more config t now (Expired timer) sent k has = sums_expiry config.default_handling t now (phase_after config t) timer k

sum_in : (config : SsfConfig) (t : List Happening) → IsTrace config t → SumIn (phase_after config t) t
sum_in config [] is = ((λ none. refl), omega arith)
sum_in config (e ∷ t) is = sums_more config t e.at e.what e.sent (sum_in config t is.0) is.1.has_effect

granted_small : (config : SsfConfig) (t : List Happening) → IsTrace config t → granted t ≤ 864000
granted_small config t is = small (phase_after config t) (pending t) (granted t) (sum_in config t is)

-- ---- the switch came before what follows

came_by : (now last : ℕ) (what : What) (before : Option ℕ) → last ≤ now → IfSome before (λ moment. moment ≤ last) → IfSome (switched_after what now before) (λ moment. moment ≤ now)
came_by now last (Took input) None le by = tt
came_by now last (Took input) (Some moment) le by = omega (arith, le, by)
came_by now last (Expired Tsw) before le by = omega arith
came_by now last (Expired Tcp) None le by = tt
came_by now last (Expired Tcp) (Some moment) le by = omega (arith, le, by)
came_by now last (Expired Tccd) None le by = tt
came_by now last (Expired Tccd) (Some moment) le by = omega (arith, le, by)
came_by now last (Expired Tssf) None le by = tt
came_by now last (Expired Tssf) (Some moment) le by = omega (arith, le, by)

switched_by : (config : SsfConfig) (t : List Happening) → IsTrace config t → IfSome (switched t) (λ moment. moment ≤ last_happening_moment t)
switched_by config [] is = tt
switched_by config (e ∷ t) is = came_by e.at (last_happening_moment t) e.what (switched t) is.1.in_order (switched_by config t is.0)

-- ---- a split within a day

above : (n m : ℕ) → nat_le n m ≡ false → m < n
above n m is = grind (arith, nat_tests)

all_three : (a b c : Bool) → a ≡ true → b ≡ true → c ≡ true → (a && b && c) ≡ true
all_three a b c first second third = rw (first, second, third) refl

split_by : (came_first : Bool) (answer switch now : ℕ) → nat_le switch answer ≡ came_first → now ≤ answer + 864000 → switch ≤ now
    → is_time_info (if came_first then info.Switch (now - answer) None else info.Switch (now - switch) (Some (switch - answer))) ≡ true
split_by true answer switch now is within came = le-leb (now - answer) 864000 (omega (arith, within))
split_by false answer switch now is within came =
    let later = above switch answer is in
    all_three (nat_le (now - switch) 864000) (nat_le 1 (switch - answer)) (nat_le (switch - answer) 864000) (le-leb (now - switch) 864000 (omega (arith, within, later)))
    (le-leb 1 (switch - answer) (omega (arith, later))) (le-leb (switch - answer) 864000 (omega (arith, within, came)))

split_in_range : (answer : ℕ) (switch : Option ℕ) (now : ℕ) → now ≤ answer + 864000 → IfSome switch (λ moment. moment ≤ now) → is_time_info (split answer switch now) ≡ true
split_in_range answer None now within came = le-leb (now - answer) 864000 (omega (arith, within))
split_in_range answer (Some switch) now within came = split_by (nat_le switch answer) answer switch now refl within came

-- ---- each item

switched_yet : (switch : Option ℕ) (last now : ℕ) → last ≤ now → IfSome switch (λ moment. moment ≤ last) → IfSome switch (λ moment. moment ≤ now)
switched_yet None last now le by = tt
switched_yet (Some moment) last now le by = omega (arith, le, by)

item_in_range : (config : SsfConfig) (t : List Happening) (now : ℕ) (item : Item) → IsTrace config t → last_happening_moment t ≤ now → ItemFits t now item → ItemIsInRange item
item_in_range config t now (Msg (message.ChargingReport active info)) is le fits =
    rw fits.exact
    (split_in_range fits.answer (switched t) now (omega (arith, fits.within, granted_small config t is)) (switched_yet (switched t) (last_happening_moment t) now le (switched_by config t is)))
item_in_range config t now (Msg (message.InitialDp call calling called)) is le fits = tt
item_in_range config t now (Msg (message.EventReport e leg mode)) is le fits = tt
item_in_range config t now (Msg message.Ended) is le fits = tt
item_in_range config t now Proceed is le fits = tt
item_in_range config t now (Clear cause) is le fits = tt

items_in_range : (config : SsfConfig) (t : List Happening) (now : ℕ) (items : List Item) → IsTrace config t → last_happening_moment t ≤ now → AllFit t now items
    → All (λ out. ItemIsInRange out.item) (sent_at now items)
items_in_range config t now [] is le fit = All-nil (λ (out : Out). ItemIsInRange out.item)
items_in_range config t now (item ∷ items) is le fit =
    All-cons (λ (out : Out). ItemIsInRange out.item) (record { at = now; item = item }) (sent_at now items) (item_in_range config t now item is le fit.0)
    (items_in_range config t now items is le fit.1)

pub reports_in_range : ReportsAreInRange
reports_in_range config [] is = All-nil (λ (out : Out). ItemIsInRange out.item)
reports_in_range config (e ∷ t) is =
    All-append (λ (out : Out). ItemIsInRange out.item) (sent_in t) (sent_at e.at e.sent) (reports_in_range config t is.0)
    (items_in_range config t e.at e.sent is.0 is.1.in_order (reports_fit config (e ∷ t) is).1)
