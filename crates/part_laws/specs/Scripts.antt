-- A script has one run.
use Rattle.std.specs.Prelude.{◌≡◌, ℕ, List}
use Rattle.live_recovery.specs.Laws.{NoneIsRefused, views_of}
use Rattle.run_command.specs.Plays.{IsPlayOf}
use Rattle.run_texts.specs.declared.script.ScriptRow.{ScriptRow}
use Rattle.run_values.specs.Setups.{Setup}
use Rattle.run_values.specs.declared.post.Answer.{Answer}
use Rattle.run_values.specs.declared.post.Body.{Body}
use Rattle.runs_core.specs.Hearing.{all_heard}
use Rattle.runs_core.specs.Runs.{IsRun}
use Rattle.account_core.specs.Closed.{Closed}
use Rattle.turn_account.specs.Seen.{StoodIn}
use Rattle.ssf_core.specs.declared.config.SsfConfig.{SsfConfig}
use Rattle.tariff_core.specs.Laws.{IsProper}

-- two runs were given the same, have answered it alike, and have come to the same books
pub record AreOneRun (given its : List (ℕ × Body)) (answers others : List Answer) (books other : List Closed) : Type 0 where
  pub same_given : given ≡ its
  pub answers_are : views_of answers ≡ views_of others
  pub same_books : books ≡ other

-- so it is of two runs of one worker over one setup that play the same rows, where no ask was refused in either
abbrev pub ScriptsHaveOneRun : Type 0
ScriptsHaveOneRun =
    (setup : Setup) (config : SsfConfig) (delay : ℕ) (rows : List ScriptRow) (heard others : List (List Answer)) (given its : List (ℕ × Body)) (books other : List Closed) → IsProper setup.tariff
    → IsPlayOf config delay rows heard given → IsPlayOf config delay rows others its
    → IsRun StoodIn setup 1 given (all_heard heard) books → IsRun StoodIn setup 1 its (all_heard others) other → NoneIsRefused (all_heard heard) → NoneIsRefused (all_heard others)
    → AreOneRun given its (all_heard heard) (all_heard others) books other
