-- What a call of the gsmSSF does to the traces that it stands for.
use Rattle.std.specs.Prelude.{◌≡◌, ◌++◌, ◌<◌, ◌≤◌, ℕ, Option, Some, None, Result, Ok, Err, List, [], ◌∷◌}
use Rattle.std.specs.Result.{result_err}
use Rattle.ssf_core.specs.Happenings.{Happening, What, Took, Expired, sent_in}
use Rattle.ssf_core.specs.Quantities.{last_happening_moment}
use Rattle.ssf_core.specs.Stands.{StageStands}
use Rattle.ssf_core.specs.Rules.{Effect, on_input}
use Rattle.ssf_core.specs.Traces.{IsTrace, due, phase_after}
use Rattle.ssf_core.specs.declared.config.SsfConfig.{SsfConfig}
use Rattle.ssf_core.specs.declared.fault.SsfFault.{SsfFault}
use Rattle.ssf_core.specs.declared.ssf.Input.{Input}
use Rattle.ssf_core.specs.declared.item.Out.{Out}
use Rattle.ssf_core.specs.declared.stage.Stage.{Stage}
use Rattle.ssf_core.specs.declared.timers.Timer.{Timer}

-- a gsmSSF, as contracts see it: how it is set up, the latest moment that it took, and where its call is
pub record View : Type 0 where
  pub config : SsfConfig
  pub last : ℕ
  pub stage : Stage

-- the gsmSSF stands for a trace
abbrev pub Stands : View → List Happening → Type 0
Stands view trace = StageStands view.config view.last view.stage trace

-- a timer expired
abbrev pub IsExpiry : What → Type 0
IsExpiry (Took input) = ⊥
IsExpiry (Expired timer) = Unit {0}

-- nothing but timers that expired
abbrev pub AreExpiries : List Happening → Type 0
AreExpiries [] = Unit {0}
AreExpiries (e ∷ trace) = AreExpiries trace × IsExpiry e.what

-- the timers have run up to now: the trace goes on by expiries alone, none of them is later, and none is due by now any more
pub record RunsUntil (config : SsfConfig) (now : ℕ) (trace timed : List Happening) : Type 0 where
  pub fired : List Happening
  pub expiries : AreExpiries fired
  pub follows : timed ≡ fired ++ trace
  pub is_trace : IsTrace config timed
  pub by_now : last_happening_moment timed ≤ now
  pub quiet : (timer : Timer) (d : ℕ) → due config timed timer ≡ Some d → now < d

-- an input is taken, where it isn't refused
abbrev pub with_input : ℕ → Input → List Happening → Result Effect SsfFault → List Happening
with_input now input trace (Ok effect) = record { at = now; what = Took input; sent = effect.sent } ∷ trace
with_input now input trace (Err fault) = trace

-- time passes: the timers run, and what they send is sent
pub record Advances (before after : View) (now : ℕ) (trace : List Happening) (sent : List Out) : Type 0 where
  pub timed : List Happening
  pub runs : RunsUntil before.config now trace timed
  pub stands : Stands after timed
  pub sends : sent_in timed ≡ sent_in trace ++ sent

-- an input comes: the timers run, and then it is taken or refused as the rules say
pub record TakesAt (before after : View) (now : ℕ) (input : Input) (trace : List Happening) (sent : List Out) (fault : Option SsfFault) : Type 0 where
  pub timed : List Happening
  pub runs : RunsUntil before.config now trace timed
  pub refused : fault ≡ result_err (on_input timed (phase_after before.config timed) now input)
  pub stands : Stands after (with_input now input timed (on_input timed (phase_after before.config timed) now input))
  pub sends : sent_in (with_input now input timed (on_input timed (phase_after before.config timed) now input)) ≡ sent_in trace ++ sent

-- the least due moment, or none where no timer runs
abbrev pub IsNextDue : SsfConfig → List Happening → Option ℕ → Type 0
IsNextDue config trace None = (timer : Timer) → due config trace timer ≡ None
IsNextDue config trace (Some moment) =
    ((timer : Timer) × (due config trace timer ≡ Some moment)) × ((timer : Timer) (d : ℕ) → due config trace timer ≡ Some d → moment ≤ d)
