-- Which traces a stage of the code stands for.
use Rattle.std.specs.Prelude.{◌≡◌, ◌+◌, ◌≤◌, ℕ, Bool, Option, Some, None, List}
use Rattle.std.specs.Option.{option_map}
use Rattle.cap_values.specs.declared.arming.Point.{Point}
use Rattle.cap_values.specs.declared.charge.Charge.{Charge}
use Rattle.cap_values.specs.declared.mode.Mode.{Mode}
use Rattle.ssf_core.specs.Happenings.{Happening}
use Rattle.ssf_core.specs.Modes.{modes_at}
use Rattle.ssf_core.specs.Phases.{SsfPhase, Unused, Requested, Initial, Early, Active, Down, Ended}
use Rattle.ssf_core.specs.Quantities.{answered, granted, last_input, last_happening_moment, mode_at, pending, period_end, switch_due, switched}
use Rattle.ssf_core.specs.Stages.{blank, passed_switch, switch_due_of, tccd_due_of}
use Rattle.ssf_core.specs.Traces.{IsTrace, awaited_switch, phase_after}
use Rattle.ssf_core.specs.declared.config.SsfConfig.{SsfConfig}
use Rattle.ssf_core.specs.declared.stage.Active.{Active as AnActive}
use Rattle.ssf_core.specs.declared.stage.Charging.{Charging}
use Rattle.ssf_core.specs.declared.stage.Charging.TheVariants as charging
use Rattle.ssf_core.specs.declared.stage.Early.{Early as AnEarly}
use Rattle.ssf_core.specs.declared.stage.Stage.{Stage}
use Rattle.ssf_core.specs.declared.stage.Stage.TheVariants as stage

-- the phase of a stage
abbrev pub ssf_phase_of : Stage → SsfPhase
ssf_phase_of stage.Unused = Unused
ssf_phase_of stage.Requested = Requested
ssf_phase_of (stage.Initial early due) = Initial
ssf_phase_of (stage.Early early) = Early
ssf_phase_of (stage.Active active) = Active
ssf_phase_of (stage.Down due) = Down
ssf_phase_of stage.Ended = Ended

-- whether the period that was ordered ends the call
abbrev pub release_of : Option Charge → Option Bool
release_of None = None
release_of (Some charge) = Some charge.release

-- the units of the period that was ordered, none where there is no order
abbrev pub period_of : Option Charge → ℕ
period_of None = 0
period_of (Some charge) = charge.period

-- whether the period that runs ends the call, where one runs
abbrev pub running_period : Charging → Option Bool
running_period charging.Off = None
running_period (charging.Running release) = Some release
running_period (charging.Over due) = None

-- a call before its answer has these modes, this pending period and this sum, no end of a period, and this switch
pub record EarlyHas (early : AnEarly) (modes : Point → Mode) (wish : Option Bool) (sum : ℕ) (end came awaited : Option ℕ) : Type 0 where
  pub same_modes : (p : Point) → modes p ≡ modes_at early.modes p
  pub same_wish : wish ≡ release_of early.charge
  pub same_sum : sum ≡ period_of early.charge
  pub no_end : end ≡ None
  pub same_switch : came ≡ passed_switch early.switch
  pub same_awaited : awaited ≡ switch_due_of early.switch

-- a call after its answer has these modes, this pending period, this sum, this wait for a further period, this answer and this switch
pub record ActiveHas (active : AnActive) (modes : Point → Mode) (wish : Option Bool) (sum : ℕ) (wait answer came awaited : Option ℕ) : Type 0 where
  pub same_modes : (p : Point) → modes p ≡ modes_at active.modes p
  pub same_wish : wish ≡ running_period active.charging
  pub same_sum : sum ≡ active.granted
  pub same_wait : wait ≡ tccd_due_of active.charging
  pub same_answer : answer ≡ Some active.answered
  pub same_switch : came ≡ passed_switch active.switch
  pub same_awaited : awaited ≡ switch_due_of active.switch

-- what a call keeps before its answer is what the trace says
abbrev pub EarlyMatches : AnEarly → List Happening → Type 0
EarlyMatches early trace =
    EarlyHas early (mode_at trace) (pending trace) (granted trace) (period_end trace) (switched trace) (awaited_switch (switched trace) (switch_due trace))

-- what an answered call keeps is what the trace says
abbrev pub ActiveMatches : ℕ → AnActive → List Happening → Type 0
ActiveMatches tccd active trace =
    ActiveHas active (mode_at trace) (pending trace) (granted trace) (option_map (λ end. end + tccd) (period_end trace)) (answered trace) (switched trace)
    (awaited_switch (switched trace) (switch_due trace))

-- the data of a stage are those that the trace says
abbrev pub StageMatches : SsfConfig → Stage → List Happening → Type 0
StageMatches config stage.Unused trace = EarlyMatches blank trace
StageMatches config stage.Requested trace = EarlyMatches blank trace
StageMatches config (stage.Initial early due) trace = EarlyMatches early trace × (last_input trace + config.tssf ≡ due)
StageMatches config (stage.Early early) trace = EarlyMatches early trace
StageMatches config (stage.Active active) trace = ActiveMatches config.tccd active trace
StageMatches config (stage.Down due) trace = last_input trace + config.tssf ≡ due
StageMatches config stage.Ended trace = Unit {0}

-- a stage stands for a trace by a moment
pub record StageStands (config : SsfConfig) (last : ℕ) (stage : Stage) (trace : List Happening) : Type 0 where
  pub is_trace : IsTrace config trace
  pub phase : phase_after config trace ≡ ssf_phase_of stage
  pub data' : StageMatches config stage trace
  pub behind : last_happening_moment trace ≤ last
