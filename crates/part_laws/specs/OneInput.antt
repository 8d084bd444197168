-- One input, played in parts and by one run.
use Rattle.std.specs.Prelude.{◌≡◌, ◌<◌, ℕ, List, length, ⊤}
use Rattle.part_laws.specs.ScriptParts.{payer_in_rows}
use Rattle.run_command.specs.Answers.{IsRunOf}
use Rattle.run_outputs.specs.Texts.{RunSaid}
use Rattle.run_command.specs.InParts.{IsPartOf, IsRunInParts}
use Rattle.run_outputs.specs.Kept.{PartSaid}
use Rattle.run_outputs.specs.Refused.{none_refused}
use Rattle.run_outputs.specs.declared.refusals.Refusals.{Refusals}
use Rattle.run_outputs.specs.declared.unplaced.UnplacedEvent.{UnplacedEvent}
use Rattle.run_values.specs.declared.options.RunAsk.{RunAsk}
use Rattle.run_values.specs.declared.options.RunOutput.{RunOutput}
use Rattle.run_values.specs.declared.options.RunOutput.TheVariants as output
use Rattle.run_outputs.specs.Parts.{part_rows}
use Rattle.run_texts.specs.Inputs.{RunInput}

-- a part was played with the values that one run of the input has: its setup, its configuration of gsmSSFs, and of its rows those of the part
pub record HasValuesOf {ask : RunAsk} {said : RunInput} {firsts : List ℕ} {part : ℕ} {kept : PartSaid} (is : IsPartOf ask said firsts part kept) {input : List ℕ} {ran : RunSaid} (whole : IsRunOf ask input ran) : Type 0 where
  pub setup : is.are_books.setup ≡ whole.are_books.setup
  pub config : is.given_by.config ≡ whole.given_by.config
  pub rows : is.given_by.rows ≡ part_rows firsts (payer_in_rows whole.are_books.setup whole.given_by.rows) whole.given_by.rows part

-- lines, and tables of calls, are the same; a table of books has the numbers of settles, and a trace is of one run
abbrev pub PrintsAlike : RunOutput → List ℕ → List ℕ → Type 0
PrintsAlike output.Lines text other = text ≡ other
PrintsAlike (output.Calls clock) text other = text ≡ other
PrintsAlike output.Book text other = ⊤
PrintsAlike (output.Trace clock) text other = ⊤

-- its text is so, and the same events had no place
pub record SaysAsOneRun (o : RunOutput) (text : List ℕ) (events : List UnplacedEvent) (ran : RunSaid) : Type 0 where
  pub text_is : PrintsAlike o text ran.text
  pub events_are : events ≡ ran.unplaced

-- so prints a run in parts of one worker each as one run of one worker does, where no account refuses an ask in either
abbrev pub PartsPrintAsOneRun : Type 0
PartsPrintAsOneRun =
    (asked : ℕ) (ask : RunAsk) (input text : List ℕ) (refusals : Refusals) (events : List UnplacedEvent) (ran : RunSaid) (parts : IsRunInParts asked ask input text refusals events) (whole : IsRunOf ask input ran)
    → ask.workers ≡ 1 → ((part : ℕ) (d : PartSaid) (within : part < length parts.parts) → HasValuesOf (parts.each part d within) whole)
    → refusals ≡ none_refused → ran.refusals ≡ none_refused → SaysAsOneRun ask.output text events ran
