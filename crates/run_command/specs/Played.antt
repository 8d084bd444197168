-- A script that was played.
use Rattle.std.specs.Prelude.{◌≡◌, ℕ, List, map, true}
use Rattle.book_texts.specs.Typed.{IsTyped}
use Rattle.run_outputs.specs.Texts.{AreTextsOf, IsTextOf, RunSaid, TablesSaid, clock_of, run_of}
use Rattle.run_command.specs.Plays.{IsGivenBy}
use Rattle.run_outputs.specs.Refused.{refusals_counted_in}
use Rattle.run_outputs.specs.Unplaced.{AreByCall, events_in_rows}
use Rattle.run_outputs.specs.declared.played.Played.{Played}
use Rattle.run_values.specs.Options.{is_trace}
use Rattle.run_values.specs.declared.options.RunAsk.{RunAsk}
use Rattle.run_values.specs.declared.options.RunOutput.TheVariants as output
use Rattle.run_texts.specs.Views.{row_data}
use Rattle.run_texts.specs.declared.script.ScriptRow.{ScriptRow}
use Rattle.run_values.specs.Setups.{Setup}
use Rattle.run_values.specs.declared.post.Answer.{Answer}
use Rattle.run_values.specs.declared.post.Body.{Body}
use Rattle.runs_core.specs.Hearing.{all_heard}
use Rattle.runs_core.specs.Runs.{IsRun}
use Rattle.runs_core.specs.Teams.{are_workers}
use Rattle.account_core.specs.Closed.{Closed}
use Rattle.turn_account.specs.Seen.{StoodIn}
use Rattle.std.specs.List.{All}

-- what was given is the play of these rows, of which the player says which had no place, and the books are those of a run in this setup; the answers are kept for a trace, and their refusals are counted
pub record IsPlayedRun (ask : RunAsk) (setup : Setup) (rows : List ScriptRow) (played : Played) : Type 0 where
  pub heard : List (List Answer)
  pub given_by : IsGivenBy ask (map row_data rows) heard (run_of setup played).given
  pub unplaced : given_by.play.play.unplaced ≡ played.unplaced.items
  pub run : IsRun StoodIn setup ask.workers (run_of setup played).given (all_heard heard) (run_of setup played).books
  pub kept : is_trace ask.output ≡ true → played.heard.items ≡ all_heard heard
  pub counted : played.refusals ≡ refusals_counted_in (all_heard heard)

-- rows were played that aren't in parts, and this was said
pub record IsWhole (ask : RunAsk) (setup : Setup) (rows : List ScriptRow) (ran : RunSaid) : Type 0 where
  pub workers : are_workers ask.workers ≡ true
  pub given : List (ℕ × Body)
  pub heard : List (List Answer)
  pub given_by : IsGivenBy ask (map row_data rows) heard given
  pub books : List Closed
  pub run : IsRun StoodIn setup ask.workers given (all_heard heard) books
  pub printed : IsTextOf ask.output (record { setup = setup; given = given; books = books }) (all_heard heard) ran.text
  pub refused : ran.refusals ≡ refusals_counted_in (all_heard heard)
  pub unplaced : AreByCall (events_in_rows given_by.play.play.unplaced) ran.unplaced
  pub typed : ask.output ≡ output.Book → All IsTyped books

-- the same of all texts of one play
pub record AreWhole (ask : RunAsk) (setup : Setup) (rows : List ScriptRow) (tables : TablesSaid) : Type 0 where
  pub workers : are_workers ask.workers ≡ true
  pub given : List (ℕ × Body)
  pub heard : List (List Answer)
  pub given_by : IsGivenBy ask (map row_data rows) heard given
  pub books : List Closed
  pub run : IsRun StoodIn setup ask.workers given (all_heard heard) books
  pub printed : AreTextsOf (clock_of ask.output) (record { setup = setup; given = given; books = books }) (all_heard heard) tables
  pub refused : tables.refusals ≡ refusals_counted_in (all_heard heard)
  pub unplaced : AreByCall (events_in_rows given_by.play.play.unplaced) tables.unplaced
  pub typed : All IsTyped books
