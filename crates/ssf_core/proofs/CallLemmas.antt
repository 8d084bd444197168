-- A call of the gsmSSF: its timers have run, and its input is taken.
use Rattle.std.proofs.Common.{◌≡◌, ◌≤◌, ◌++◌, ℕ, Option, Some, None, Result, List, refl, sym, ◌∙◌, arith}
use Rattle.std.specs.Option.{ForSome}
use Rattle.std.specs.Result.{result_err, result_unwrap_or}
use Rattle.ssf_core.specs.Calls.{Advances, IsNextDue, RunsUntil, TakesAt}
use Rattle.ssf_core.specs.Happenings.{Happening, sent_in}
use Rattle.ssf_core.specs.Running.{HasExpired}
use Rattle.ssf_core.specs.Stages.{IsQuiet, IsBounded, IsTimelyStage, expiry_moment, next_expiry_of, stage_due}
use Rattle.ssf_core.specs.Stands.{StageStands}
use Rattle.ssf_core.specs.Steps.{TakesInput}
use Rattle.ssf_core.specs.declared.fault.SsfFault.{SsfFault}
use Rattle.ssf_core.specs.declared.timers.Expiry.{Expiry}
use Rattle.ssf_core.specs.declared.config.SsfConfig.{SsfConfig}
use Rattle.ssf_core.specs.declared.ssf.Input.{Input}
use Rattle.ssf_core.specs.declared.item.Out.{Out}
use Rattle.ssf_core.specs.declared.stage.Stage.{Stage}
use Rattle.ssf_core.specs.declared.stage.Stage.TheVariants as stage
use Rattle.ssf_core.proofs.ExpiryLemmas.{due-stage, timely_due}
use Rattle.ssf_core.proofs.TimerLemmas.{later_than, next_first, next_leads, next_sound}
use Rattle.ssf_core.proofs.InputLemmas.{taken}

runs_until : (config : SsfConfig) (now : ℕ) (s : Stage) (t : List Happening) (sent : List Out) (run : HasExpired config t now s sent) → IsQuiet now s
    → RunsUntil config now t (run.fired ++ t)
runs_until config now s t sent run quiet = record {
  fired = run.fired;
  expiries = run.expiries;
  follows = refl;
  is_trace = run.stands.is_trace;
  by_now = run.stands.behind;
  quiet = λ timer d is_due. quiet timer d (sym (due-stage config now s (run.fired ++ t) timer run.stands) ∙ is_due);
}

-- time has passed
pub advances_run : (config : SsfConfig) (last now : ℕ) (s0 s : Stage) (t : List Happening) (sent : List Out) → IsQuiet now s → HasExpired config t now s sent
    → Advances (record { config = config; last = last; stage = s0 }) (record { config = config; last = now; stage = s }) now t sent
advances_run config last now s0 s t sent quiet run = record {
  timed = run.fired ++ t;
  runs = runs_until config now s t sent run quiet;
  stands = run.stands;
  sends = run.sends;
}

-- an input was taken or refused
pub takes_run : (config : SsfConfig) (last now : ℕ) (s0 s : Stage) (t : List Happening) (input : Input) (sent : List Out) (result : Result Stage SsfFault) (outs : List Out)
    → IsQuiet now s → HasExpired config t now s sent → TakesInput config s now input result sent outs
    → TakesAt (record { config = config; last = last; stage = s0 }) (record { config = config; last = now; stage = result_unwrap_or result s }) now input t outs (result_err result)
takes_run config last now s0 s t input sent result outs quiet run takes =
    let outcome = taken config now s (run.fired ++ t) input (sent_in t) sent result outs run.stands quiet run.sends takes in
    record {
      timed = run.fired ++ t;
      runs = runs_until config now s t sent run quiet;
      refused = outcome.refused;
      stands = outcome.stands;
      sends = outcome.sends;
    }

-- the moments of a timely stage can be added to
pub bounded : (last : ℕ) (s : Stage) → last ≤ 2000000000000 → IsTimelyStage last s → IsBounded s
bounded last stage.Unused le timely = tt
bounded last stage.Requested le timely = tt
bounded last (stage.Initial early d) le timely = tt
bounded last (stage.Early early) le timely = tt
bounded last (stage.Active active) le timely = (let before = timely.answered in omega arith, timely.granted)
bounded last (stage.Down d) le timely = tt
bounded last stage.Ended le timely = tt

none-leads : (o : Option ℕ) (x : Option Expiry) → ((d : ℕ) → o ≡ Some d → (e : Expiry) × (x ≡ Some e)) → x ≡ None → o ≡ None
none-leads None x leads is = refl
none-leads (Some d) x leads is = let (e, some) = leads d refl in absurd (cc)

next_due_as : (config : SsfConfig) (last : ℕ) (s : Stage) (t : List Happening) (x : Option Expiry) → StageStands config last s t → next_expiry_of s ≡ x → IsNextDue config t (expiry_moment x)
next_due_as config last s t None st is = λ timer.
    due-stage config last s t timer st
    ∙ none-leads (stage_due s timer) (next_expiry_of s) (λ d due. let (e, some, before) = next_leads s timer d due in (e, some)) is
next_due_as config last s t (Some e) st is = (
  (e.timer, due-stage config last s t e.timer st ∙ next_sound s e is),
  λ timer d due. later_than e timer d (next_first s e is timer d (sym (due-stage config last s t timer st) ∙ due)),
)

-- the next expiry is at the least due moment of the trace
pub next_due_of : (config : SsfConfig) (last : ℕ) (s : Stage) (t : List Happening) → StageStands config last s t → IsNextDue config t (expiry_moment (next_expiry_of s))
next_due_of config last s t st = next_due_as config last s t (next_expiry_of s) st refl

ahead_by : (last : ℕ) (s : Stage) (x : Option Expiry) → IsTimelyStage last s → next_expiry_of s ≡ x → (at : ℕ) → expiry_moment x ≡ Some at → last ≤ at
ahead_by last s None timely is at found = cc
ahead_by last s (Some e) timely is at found =
    let same : e.due ≡ at = cc in
    let late : last ≤ e.due = timely_due last s e.timer e.due timely (next_sound s e is) in
    omega arith

-- the next expiry lies ahead
pub next_ahead : (last : ℕ) (s : Stage) → IsTimelyStage last s → ForSome (expiry_moment (next_expiry_of s)) (λ at. last ≤ at)
next_ahead last s timely = λ at found. ahead_by last s (next_expiry_of s) timely refl at found
