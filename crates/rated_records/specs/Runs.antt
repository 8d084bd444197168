-- What `rate` prints of the calls that `run --calls` prints.
use Rattle.std.specs.Prelude.{ℕ, Bool, List, All}
use Rattle.run_outputs.specs.Tables.{IsCallText}
use Rattle.tariff_core.specs.declared.clock.Clock.{Clock}
use Rattle.rated_records.specs.Tables.{IsInputOf, IsPrintable, IsRatedTable, names_by_start}
use Rattle.rating.specs.Texts.{IsRatedText, rate_input_of}
use Rattle.rating.specs.declared.score.Score.{Score}
use Rattle.run_command.specs.Answers.{IsRunOf}
use Rattle.run_laws.specs.Answered.{run_of_answer}
use Rattle.run_outputs.specs.Texts.{RunSaid}
use Rattle.run_values.specs.declared.options.RunAsk.{RunAsk}

-- where an answer of `run` is the table of its calls, `rate` prints of it, behind the run's tariff, each record in its row, to just what was paid unless it has a forfeit
abbrev pub RunsHaveNoDifference : Type 0
RunsHaveNoDifference =
    (ask : RunAsk) (input : List ℕ) (ran : RunSaid) (is : IsRunOf ask input ran) (clock : Clock) (text : IsCallText clock (run_of_answer ask input ran is) ran.text) → All IsPrintable text.calls
    → (records : List ℕ) → IsInputOf (run_of_answer ask input ran is) ran.text records → (differing : Bool) (printed : List ℕ) (score : Score)
    → IsRatedText differing (rate_input_of names_by_start records) printed score → IsRatedTable differing clock text.calls printed score
