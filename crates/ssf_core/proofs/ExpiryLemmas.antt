-- An expiry is by the rules, and the trace goes on by it.
use Rattle.std.proofs.Common.{◌≡◌, ◌+◌, ◌≤◌, ◌++◌, ℕ, Some, List, [], ◌∷◌, refl, sym, ap, ◌∙◌, append_assoc, arith}
use Rattle.ssf_core.specs.Happenings.{Happening, Expired, sent_at, sent_in}
use Rattle.ssf_core.specs.Running.{HasExpired}
use Rattle.ssf_core.specs.Stages.{IsChargingTimely, IsSwitchTimely, IsTimelyStage, due_by, next_expiry_of, stage_due, switch_due_of, tccd_due_of, tcp_due_of}
use Rattle.ssf_core.specs.Stands.{StageMatches, StageStands, ssf_phase_of, running_period}
use Rattle.ssf_core.specs.Steps.{Expires}
use Rattle.ssf_core.specs.Rules.{on_expiry}
use Rattle.ssf_core.specs.Traces.{MayFollow, due, due_in, period_due, phase_after}
use Rattle.ssf_core.specs.declared.config.SsfConfig.{SsfConfig}
use Rattle.ssf_core.specs.declared.item.Item.{Item}
use Rattle.ssf_core.specs.declared.item.Out.{Out}
use Rattle.ssf_core.specs.declared.stage.Charging.{Charging}
use Rattle.ssf_core.specs.declared.stage.Charging.TheVariants as charging
use Rattle.ssf_core.specs.declared.stage.Stage.{Stage}
use Rattle.ssf_core.specs.declared.stage.Stage.TheVariants as stage
use Rattle.ssf_core.specs.declared.stage.Switch.{Switch}
use Rattle.ssf_core.specs.declared.stage.Switch.TheVariants as switch
use Rattle.ssf_core.specs.declared.timers.Expiry.{Expiry}
use Rattle.ssf_core.specs.declared.timers.Timer.{Timer}
use Rattle.ssf_core.specs.declared.timers.Timer.TheVariants.{Tsw, Tcp, Tccd, Tssf}
use Rattle.ssf_core.proofs.TimerLemmas.{due_by-some, later_than, next_first, next_sound, timely_later}

append-none : (outs : List Out) → outs ≡ outs ++ []
append-none [] = refl
append-none (o ∷ outs) = ap (λ (l : List Out). o ∷ l) (append-none outs)

switch_timely_due : (now : ℕ) (w : Switch) (d : ℕ) → IsSwitchTimely now w → switch_due_of w ≡ Some d → now ≤ d
switch_timely_due now switch.Unset d timely due = absurd (cc)
switch_timely_due now (switch.Due m) d timely due = let same : m ≡ d = cc in omega arith
switch_timely_due now (switch.Passed m) d timely due = absurd (cc)

tcp_timely_due : (now end : ℕ) (ch : Charging) (d : ℕ) → IsChargingTimely now end ch → tcp_due_of end ch ≡ Some d → now ≤ d
tcp_timely_due now end charging.Off d timely due = absurd (cc)
tcp_timely_due now end (charging.Running release) d timely due = let same : end ≡ d = cc in omega arith
tcp_timely_due now end (charging.Over m) d timely due = absurd (cc)

tccd_timely_due : (now end : ℕ) (ch : Charging) (d : ℕ) → IsChargingTimely now end ch → tccd_due_of ch ≡ Some d → now ≤ d
tccd_timely_due now end charging.Off d timely due = absurd (cc)
tccd_timely_due now end (charging.Running release) d timely due = absurd (cc)
tccd_timely_due now end (charging.Over m) d timely due = let same : m ≡ d = cc in omega arith

-- no due moment of a timely stage lies behind
pub timely_due : (now : ℕ) (s : Stage) (timer : Timer) (d : ℕ) → IsTimelyStage now s → stage_due s timer ≡ Some d → now ≤ d
timely_due now stage.Unused timer d timely due = absurd (cc)
timely_due now stage.Requested timer d timely due = absurd (cc)
timely_due now (stage.Initial early m) Tsw d timely due = switch_timely_due now early.switch d timely.1 due
timely_due now (stage.Initial early m) Tcp d timely due = absurd (cc)
timely_due now (stage.Initial early m) Tccd d timely due = absurd (cc)
timely_due now (stage.Initial early m) Tssf d timely due = let same : m ≡ d = cc in let le = timely.0 in omega arith
timely_due now (stage.Early early) Tsw d timely due = switch_timely_due now early.switch d timely due
timely_due now (stage.Early early) Tcp d timely due = absurd (cc)
timely_due now (stage.Early early) Tccd d timely due = absurd (cc)
timely_due now (stage.Early early) Tssf d timely due = absurd (cc)
timely_due now (stage.Active active) Tsw d timely due = switch_timely_due now active.switch d timely.switch due
timely_due now (stage.Active active) Tcp d timely due = tcp_timely_due now (active.answered + active.granted) active.charging d timely.charging due
timely_due now (stage.Active active) Tccd d timely due = tccd_timely_due now (active.answered + active.granted) active.charging d timely.charging due
timely_due now (stage.Active active) Tssf d timely due = absurd (cc)
timely_due now (stage.Down m) Tsw d timely due = absurd (cc)
timely_due now (stage.Down m) Tcp d timely due = absurd (cc)
timely_due now (stage.Down m) Tccd d timely due = absurd (cc)
timely_due now (stage.Down m) Tssf d timely due = let same : m ≡ d = cc in omega arith
timely_due now stage.Ended timer d timely due = absurd (cc)

period_due-running_period : (ch : Charging) (answer sum : ℕ) → period_due (running_period ch) (Some answer) sum ≡ tcp_due_of (answer + sum) ch
period_due-running_period charging.Off answer sum = refl
period_due-running_period (charging.Running release) answer sum = refl
period_due-running_period (charging.Over m) answer sum = refl

-- the timers of a stage are due when the trace says
pub due_in-stage : (config : SsfConfig) (t : List Happening) (s : Stage) (timer : Timer) → StageMatches config s t → due_in config t (ssf_phase_of s) timer ≡ stage_due s timer
due_in-stage config t stage.Unused Tsw m = refl
due_in-stage config t stage.Unused Tcp m = refl
due_in-stage config t stage.Unused Tccd m = refl
due_in-stage config t stage.Unused Tssf m = refl
due_in-stage config t stage.Requested Tsw m = refl
due_in-stage config t stage.Requested Tcp m = refl
due_in-stage config t stage.Requested Tccd m = refl
due_in-stage config t stage.Requested Tssf m = refl
due_in-stage config t (stage.Initial early moment) Tsw m = m.0.same_awaited
due_in-stage config t (stage.Initial early moment) Tcp m = refl
due_in-stage config t (stage.Initial early moment) Tccd m = refl
due_in-stage config t (stage.Initial early moment) Tssf m = ap (λ (d : ℕ). Some d) m.1
due_in-stage config t (stage.Early early) Tsw m = m.same_awaited
due_in-stage config t (stage.Early early) Tcp m = refl
due_in-stage config t (stage.Early early) Tccd m = refl
due_in-stage config t (stage.Early early) Tssf m = refl
due_in-stage config t (stage.Active active) Tsw m = m.same_awaited
due_in-stage config t (stage.Active active) Tcp m = rw (m.same_wish, m.same_answer, m.same_sum) (period_due-running_period active.charging active.answered active.granted)
due_in-stage config t (stage.Active active) Tccd m = m.same_wait
due_in-stage config t (stage.Active active) Tssf m = refl
due_in-stage config t (stage.Down moment) Tsw m = refl
due_in-stage config t (stage.Down moment) Tcp m = refl
due_in-stage config t (stage.Down moment) Tccd m = refl
due_in-stage config t (stage.Down moment) Tssf m = ap (λ (d : ℕ). Some d) m
due_in-stage config t stage.Ended Tsw m = refl
due_in-stage config t stage.Ended Tcp m = refl
due_in-stage config t stage.Ended Tccd m = refl
due_in-stage config t stage.Ended Tssf m = refl

-- a timer is due when the stage that stands for the trace says
pub due-stage : (config : SsfConfig) (last : ℕ) (s : Stage) (t : List Happening) (timer : Timer) → StageStands config last s t → due config t timer ≡ stage_due s timer
due-stage config last s t timer st = ap (λ p. due_in config t p timer) st.phase ∙ due_in-stage config t s timer st.data'

-- the expiry that is next, as the rules have it
abbrev pub next_happening : SsfConfig → List Happening → Expiry → Happening
next_happening config t e = record {
  at = e.due;
  what = Expired e.timer;
  sent = (on_expiry config.default_handling t (phase_after config t) e.due e.timer).sent;
}

stands_expired : (config : SsfConfig) (clock : ℕ) (s to : Stage) (t : List Happening) (e : Expiry) (before outs : List Out) → StageStands config clock s t → IsTimelyStage clock s → next_expiry_of s ≡ Some e
    → Expires config s e.due e.timer to before outs → StageStands config e.due to (next_happening config t e ∷ t)
stands_expired config clock s to t e before outs st timely next expires =
    let is_due = next_sound s e next in
    let behind = st.behind in
    let le = timely_due clock s e.timer e.due timely is_due in
    let follows : MayFollow config t (next_happening config t e) = record {
      in_order = omega arith;
      none_missed = λ timer d is. next_first s e next timer d (sym (due-stage config clock s t timer st) ∙ is);
      has_effect = (due-stage config clock s t e.timer st ∙ is_due, refl);
    } in
    record {
      is_trace = (st.is_trace, follows);
      phase = ap (λ p. (on_expiry config.default_handling t p e.due e.timer).next) st.phase ∙ (expires t st.data').phase;
      data' = (expires t st.data').data' (next_happening config t e).sent;
      behind = omega arith;
    }

-- one expiry more
pub runs_more : (config : SsfConfig) (t : List Happening) (clock : ℕ) (s to : Stage) (sent outs : List Out) (e : Expiry) → IsTimelyStage clock s → next_expiry_of s ≡ Some e
    → Expires config s e.due e.timer to sent outs → HasExpired config t clock s sent → HasExpired config t e.due to outs
runs_more config t clock s to sent outs e timely next expires run =
    let trace = run.fired ++ t in
    let st = run.stands in
    let effect = on_expiry config.default_handling trace (ssf_phase_of s) e.due e.timer in
    let same : (next_happening config trace e).sent ≡ effect.sent = ap (λ p. (on_expiry config.default_handling trace p e.due e.timer).sent) st.phase in
    record {
      fired = next_happening config trace e ∷ run.fired;
      expiries = (run.expiries, tt);
      stands = stands_expired config clock s to trace e sent outs st timely next expires;
      sends =
          ap (λ (outs : List Out). outs ++ sent_at e.due (next_happening config trace e).sent) run.sends
          ∙ ap (λ (l : List Item). (sent_in t ++ sent) ++ sent_at e.due l) same
          ∙ append_assoc (sent_in t) sent (sent_at e.due effect.sent)
          ∙ ap (λ (outs : List Out). sent_in t ++ outs) (sym (expires trace st.data').sends);
    }

-- nothing has run yet
pub runs_none : (config : SsfConfig) (t : List Happening) (clock : ℕ) (s : Stage) → StageStands config clock s t → HasExpired config t clock s []
runs_none config t clock s st = record { fired = []; expiries = tt; stands = st; sends = append-none (sent_in t) }

-- the clock goes on
pub runs_later : (config : SsfConfig) (t : List Happening) (clock now : ℕ) (s : Stage) (sent : List Out) → clock ≤ now → HasExpired config t clock s sent → HasExpired config t now s sent
runs_later config t clock now s sent le run =
    let st = run.stands in
    let behind = st.behind in
    record {
      fired = run.fired;
      expiries = run.expiries;
      stands = record { is_trace = st.is_trace; phase = st.phase; data' = st.data'; behind = omega arith };
      sends = run.sends;
    }

-- the facts of one expiry in a run of timers: it isn't behind the clock, and it is due, by now
pub record Fires (clock now : ℕ) (s : Stage) (e : Expiry) : Type 0 where
  pub is_next : next_expiry_of s ≡ Some e
  pub by_now : e.due ≤ now
  pub timely : IsTimelyStage e.due s
  pub is_due : stage_due s e.timer ≡ Some e.due

pub fires : (clock now : ℕ) (s : Stage) (e : Expiry) → IsTimelyStage clock s → due_by now (next_expiry_of s) ≡ Some e → Fires clock now s e
fires clock now s e timely is =
    let (next, by_now) = due_by-some now (next_expiry_of s) e is in
    let is_due = next_sound s e next in
    let le = timely_due clock s e.timer e.due timely is_due in
    record {
      is_next = next;
      by_now = by_now;
      timely = timely_later clock e.due s timely le (λ timer d due. later_than e timer d (next_first s e next timer d due));
      is_due = is_due;
    }
