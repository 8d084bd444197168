-- What a run comes to in all of its outputs.
use Rattle.std.specs.Prelude.{◌≡◌, ℕ, true, List, All, Result, Ok, Err}
use Rattle.book_texts.specs.Typed.{IsTyped}
use Rattle.run_command.specs.Answers.{IsRunAnswer}
use Rattle.run_command.specs.Books.{AreBooksOf}
use Rattle.run_command.specs.Plays.{IsGivenBy}
use Rattle.run_command.specs.Starts.{InputIsInRange}
use Rattle.run_outputs.specs.Refused.{refusals_counted_in}
use Rattle.run_outputs.specs.Unplaced.{AreByCall, events_in_rows}
use Rattle.run_command.specs.declared.error.RunError.{RunError}
use Rattle.run_values.specs.declared.options.RunAsk.{RunAsk}
use Rattle.run_texts.specs.Inputs.{RunInput, input_of}
use Rattle.run_values.specs.declared.post.Answer.{Answer}
use Rattle.run_values.specs.declared.post.Body.{Body}
use Rattle.runs_core.specs.Hearing.{all_heard}
use Rattle.runs_core.specs.Teams.{are_workers}
use Rattle.account_core.specs.Closed.{Closed}
use Rattle.run_outputs.specs.Texts.{AreTextsOf, TablesSaid, clock_of}

-- the texts are those of a run over the input, as it was asked for, to which the script of the input was played, the refusals are those of the answers that were heard, and the events that had no place
-- are those of the play
pub record AreTablesOf (ask : RunAsk) (input : List ℕ) (tables : TablesSaid) : Type 0 where
  pub said : RunInput
  pub read : input_of input ≡ Ok said
  pub range : InputIsInRange said
  pub workers : are_workers ask.workers ≡ true
  pub given : List (ℕ × Body)
  pub heard : List (List Answer)
  pub given_by : IsGivenBy ask said.script heard given
  pub books : List Closed
  pub are_books : AreBooksOf ask said given heard books
  pub printed : AreTextsOf (clock_of ask.output) (record { setup = are_books.setup; given = given; books = books }) (all_heard heard) tables
  pub refused : tables.refusals ≡ refusals_counted_in (all_heard heard)
  pub unplaced : AreByCall (events_in_rows given_by.play.play.unplaced) tables.unplaced
  -- each number in the table of the books has its type
  pub typed : All IsTyped books

-- an answer to the input: all outputs of one run, or a fault as that of a run
abbrev pub IsTablesAnswer : RunAsk → List ℕ → Result TablesSaid RunError → Type 0
IsTablesAnswer ask input (Ok tables) = AreTablesOf ask input tables
IsTablesAnswer ask input (Err why) = IsRunAnswer ask input (Err why)
