-- What running the timers does to a trace.
use Rattle.std.specs.Prelude.{◌≡◌, ◌++◌, ℕ, List}
use Rattle.ssf_core.specs.Calls.{AreExpiries}
use Rattle.ssf_core.specs.Happenings.{Happening, sent_in}
use Rattle.ssf_core.specs.Stands.{StageStands}
use Rattle.ssf_core.specs.declared.config.SsfConfig.{SsfConfig}
use Rattle.ssf_core.specs.declared.item.Out.{Out}
use Rattle.ssf_core.specs.declared.stage.Stage.{Stage}

-- the trace has gone on by these expiries, and the stage stands for it by the clock
pub record HasExpired (config : SsfConfig) (trace : List Happening) (clock : ℕ) (stage : Stage) (sent : List Out) : Type 0 where
  pub fired : List Happening
  pub expiries : AreExpiries fired
  pub stands : StageStands config clock stage (fired ++ trace)
  pub sends : sent_in (fired ++ trace) ≡ sent_in trace ++ sent

-- from each trace that the first stage stands for
abbrev pub Runs : SsfConfig → ℕ → Stage → List Happening → ℕ → Stage → List Out → Type 0
Runs config last first trace clock stage sent = StageStands config last first trace → HasExpired config trace clock stage sent
