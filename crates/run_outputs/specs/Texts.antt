-- The texts of a script that was played.
use Rattle.std.specs.Prelude.{◌≡◌, ℕ, List, string_bytes}
use Rattle.book_texts.specs.BookTexts.{book_text, version_of}
use Rattle.book_texts.specs.RunTexts.{IsRunText}
use Rattle.run_outputs.specs.Records.{Run}
use Rattle.run_outputs.specs.Tables.{IsCallText}
use Rattle.tariff_core.specs.declared.clock.Clock.{Clock}
use Rattle.tariff_core.specs.declared.clock.Clock.TheVariants as clock
use Rattle.run_values.specs.declared.options.RunOutput.{RunOutput}
use Rattle.run_values.specs.declared.options.RunOutput.TheVariants as output
use Rattle.run_outputs.specs.declared.played.Played.{Played}
use Rattle.run_outputs.specs.declared.played.Ran.{Ran}
use Rattle.run_outputs.specs.declared.tables.RunTables.{RunTables}
use Rattle.run_outputs.specs.declared.refusals.Refusals.{Refusals}
use Rattle.run_outputs.specs.declared.unplaced.UnplacedEvent.{UnplacedEvent}
use Rattle.run_texts.specs.Tables.{trace_text}
use Rattle.run_values.specs.Setups.{Setup}
use Rattle.run_values.specs.declared.post.Answer.{Answer}
use Rattle.tariff_core.specs.Bands.{have_steps}

-- what a play over a setup has come to: what was given to its workers, and its books
abbrev pub run_of : Setup → Played → Run
run_of setup played = record { setup = setup; given = played.given.items; books = played.books.items }

-- the text of what a run has come to, where these answers were heard: the lines of its accounts and calls, the table of its books, of version 4 where its tariff has billing steps, that of its calls,
-- or the trace of what was given to its workers and of their answers
abbrev pub IsTextOf : RunOutput → Run → List Answer → List ℕ → Type 0
IsTextOf output.Lines run heard text = IsRunText run.books text
IsTextOf output.Book run heard text = text ≡ book_text (version_of (have_steps run.setup.tariff) run.books) run.books
IsTextOf (output.Calls clock) run heard text = IsCallText clock run text
IsTextOf (output.Trace clock) run heard text = text ≡ trace_text clock run.given heard

-- what a run says: its text, how often its accounts refused what they were asked, and the events that had no place
pub record RunSaid : Type 0 where
  pub text : List ℕ
  pub refusals : Refusals
  pub unplaced : List UnplacedEvent

-- what a run of the code says
abbrev pub run_said_of : Ran → RunSaid
run_said_of ran = record { text = string_bytes ran.text; refusals = ran.refusals; unplaced = ran.unplaced.items }

-- how moments are printed in the table of calls or the trace, where one of these is asked for
abbrev pub clock_of : RunOutput → Clock
clock_of output.Lines = clock.Digits
clock_of output.Book = clock.Digits
clock_of (output.Calls clock) = clock
clock_of (output.Trace clock) = clock

-- the lines of a run, the table of its books, that of its calls and its trace, how often its accounts refused what they were asked, and the events that had no place
pub record TablesSaid : Type 0 where
  pub lines : List ℕ
  pub book : List ℕ
  pub calls : List ℕ
  pub trace : List ℕ
  pub refusals : Refusals
  pub unplaced : List UnplacedEvent

-- what the texts, the refusals and the events of the code say
abbrev pub tables_said : RunTables → TablesSaid
tables_said tables = record {
  lines = string_bytes tables.lines;
  book = string_bytes tables.book;
  calls = string_bytes tables.calls;
  trace = string_bytes tables.trace;
  refusals = tables.refusals;
  unplaced = tables.unplaced.items;
}

-- each is the text of one and the same run, where these answers were heard
pub record AreTextsOf (clock : Clock) (run : Run) (heard : List Answer) (tables : TablesSaid) : Type 0 where
  pub lines : IsTextOf output.Lines run heard tables.lines
  pub book : IsTextOf output.Book run heard tables.book
  pub calls : IsTextOf (output.Calls clock) run heard tables.calls
  pub trace : IsTextOf (output.Trace clock) run heard tables.trace
