-- What `run` answers to an input.
use Rattle.std.specs.Prelude.{◌≡◌, ℕ, true, false, Option, Some, None, List, All, Result, Ok, Err, ⊤}
use Rattle.book_texts.specs.Typed.{IsTyped}
use Rattle.run_command.specs.Books.{AreBooksOf}
use Rattle.run_command.specs.InParts.{IsRunInParts}
use Rattle.run_command.specs.Plays.{IsGivenBy}
use Rattle.run_command.specs.Starts.{InputIsInRange}
use Rattle.run_outputs.specs.Refused.{refusals_counted_in}
use Rattle.run_outputs.specs.Unplaced.{AreByCall, events_in_rows}
use Rattle.run_values.specs.Options.{played_parts}
use Rattle.run_values.specs.declared.options.PartsAsk.{PartsAsk}
use Rattle.run_values.specs.declared.options.RunAsk.{RunAsk}
use Rattle.run_values.specs.declared.options.RunOutput.TheVariants as output
use Rattle.run_texts.specs.InputFaults.{RefusesInput}
use Rattle.run_texts.specs.Inputs.{RunInput, input_of}
use Rattle.run_command.specs.declared.error.RunError.{RunError}
use Rattle.run_command.specs.declared.error.RunError.TheVariants as error
use Rattle.runs_core.specs.Hearing.{all_heard}
use Rattle.runs_core.specs.Teams.{are_workers}
use Rattle.run_values.specs.declared.run_fault.RunFault.{RunFault}
use Rattle.run_values.specs.declared.run_fault.RunFault.TheVariants as run
use Rattle.account_core.specs.Closed.{Closed}
use Rattle.run_values.specs.declared.post.Answer.{Answer}
use Rattle.run_values.specs.declared.post.Body.{Body}
use Rattle.run_outputs.specs.Texts.{IsTextOf, RunSaid}

-- the text is that of the books of a run over the input, as it was asked for, to which the script of the input was played, the refusals are those of the answers that were heard, and the events that
-- had no place are those of the play
pub record IsRunOf (ask : RunAsk) (input : List ℕ) (ran : RunSaid) : Type 0 where
  pub said : RunInput
  pub read : input_of input ≡ Ok said
  pub range : InputIsInRange said
  pub workers : are_workers ask.workers ≡ true
  pub given : List (ℕ × Body)
  pub heard : List (List Answer)
  pub given_by : IsGivenBy ask said.script heard given
  pub books : List Closed
  pub are_books : AreBooksOf ask said given heard books
  pub printed : IsTextOf ask.output (record { setup = are_books.setup; given = given; books = books }) (all_heard heard) ran.text
  pub refused : ran.refusals ≡ refusals_counted_in (all_heard heard)
  pub unplaced : AreByCall (events_in_rows given_by.play.play.unplaced) ran.unplaced
  -- each number in the table of the books has its type
  pub typed : ask.output ≡ output.Book → All IsTyped books

-- what a run says, in parts or not; it is the same however many threads play the parts
abbrev pub IsRunSaid : Option PartsAsk → RunAsk → List ℕ → RunSaid → Type 0
IsRunSaid None ask input ran = IsRunOf ask input ran
IsRunSaid (Some parts) ask input ran = IsRunInParts parts.count ask input ran.text ran.refusals ran.unplaced

-- what can end a run of so many workers: `Workers` where they aren't 1 to 16, and only then; no gate closes
abbrev pub MayEndRun : ℕ → RunFault → Type 0
MayEndRun workers run.OutOfMemory = ⊤
MayEndRun workers run.Workers = are_workers workers ≡ false
MayEndRun workers run.GateClosed = ⊥
MayEndRun workers _ = are_workers workers ≡ true

-- the same of an error of the run
abbrev pub MayFail : ℕ → RunError → Type 0
MayFail workers (error.Run fault) = MayEndRun workers fault
MayFail workers (error.Input why) = ⊥

-- a run over this input was ended by a fault
pub record IsEnded (workers : ℕ) (input : List ℕ) (fault : RunFault) : Type 0 where
  pub said : RunInput
  pub read : input_of input ≡ Ok said
  pub may : MayEndRun workers fault

-- an answer to the input: what a run says, or the first fault of the input, or else a fault of the run. A failed reader and out of memory may come at any
abbrev pub IsRunAnswer : RunAsk → List ℕ → Result RunSaid RunError → Type 0
IsRunAnswer ask input (Ok ran) = IsRunSaid (played_parts ask) ask input ran
IsRunAnswer ask input (Err (error.Run run.OutOfMemory)) = ⊤
IsRunAnswer ask input (Err (error.Run fault)) = IsEnded ask.workers input fault
IsRunAnswer ask input (Err (error.Input why)) = RefusesInput why (input_of input)
