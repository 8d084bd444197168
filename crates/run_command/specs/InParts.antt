-- A run that is played in parts.
use Rattle.std.specs.Prelude.{◌≡◌, ◌<◌, ◌+◌, ℕ, true, List, [], Ok, length, map, slice_index_or}
use Rattle.std.specs.List.{All, flat_map}
use Rattle.book_texts.specs.Typed.{IsTyped}
use Rattle.run_command.specs.Books.{AreBooksOf}
use Rattle.run_command.specs.Plays.{IsGivenBy}
use Rattle.run_command.specs.Starts.{InputIsInRange}
use Rattle.run_outputs.specs.Refused.{added_up, refusals_counted_in}
use Rattle.run_outputs.specs.Unplaced.{AreByCall, events_in_rows}
use Rattle.run_outputs.specs.declared.part.Part.{Part}
use Rattle.run_outputs.specs.declared.refusals.Refusals.{Refusals}
use Rattle.run_outputs.specs.declared.unplaced.UnplacedEvent.{UnplacedEvent}
use Rattle.run_values.specs.declared.options.RunAsk.{RunAsk}
use Rattle.run_values.specs.declared.options.RunOutput.TheVariants as output
use Rattle.run_outputs.specs.Parts.{part_count, part_rows, part_script, payer_of}
use Rattle.run_texts.specs.Inputs.{RunInput, input_of}
use Rattle.run_texts.specs.Views.{row_data, with_digits}
use Rattle.run_texts.specs.declared.script.ScriptRow.{ScriptRow}
use Rattle.run_values.specs.Setups.{Setup}
use Rattle.run_values.specs.declared.post.Answer.{Answer}
use Rattle.run_values.specs.declared.post.Body.{Body}
use Rattle.runs_core.specs.Hearing.{all_heard}
use Rattle.runs_core.specs.Runs.{IsRun}
use Rattle.runs_core.specs.Teams.{are_workers}
use Rattle.account_core.specs.Closed.{Closed}
use Rattle.turn_account.specs.Seen.{StoodIn}
use Rattle.run_outputs.specs.Kept.{IsPartsText, KeepsCalls, KeepsPart, PartSaid, own_books}

-- a part of the input was played as it was asked for: over all accounts, by what the script says of this part. Its own books are kept, with the records of its calls, its refusals and its events that had
-- no place
pub record IsPartOf (ask : RunAsk) (said : RunInput) (firsts : List ℕ) (part : ℕ) (kept : PartSaid) : Type 0 where
  pub given : List (ℕ × Body)
  pub heard : List (List Answer)
  pub given_by : IsGivenBy ask (part_script firsts (payer_of said.setup.subscribers said.script) said.script part) heard given
  pub books : List Closed
  pub are_books : AreBooksOf ask said given heard books
  pub own : kept.books ≡ own_books firsts part books
  pub calls : KeepsCalls ask.output (record { setup = are_books.setup; given = given; books = books }) kept.calls
  pub refused : kept.refusals ≡ refusals_counted_in (all_heard heard)
  pub unplaced : kept.unplaced ≡ events_in_rows given_by.play.play.unplaced

-- the text is that of the books or the calls of all parts of the input, one part after another, the refusals are those of all parts, added up, and the events that had no place are theirs, by their calls
pub record IsRunInParts (asked : ℕ) (ask : RunAsk) (input text : List ℕ) (refusals : Refusals) (events : List UnplacedEvent) : Type 0 where
  pub said : RunInput
  pub read : input_of input ≡ Ok said
  pub range : InputIsInRange said
  pub workers : are_workers ask.workers ≡ true
  -- the accounts with which the second part and each further one begins
  pub firsts : List ℕ
  pub count : 1 + length firsts ≡ part_count asked (length said.setup.accounts)
  pub parts : List PartSaid
  pub all : length parts ≡ 1 + length firsts
  pub each : (part : ℕ) (d : PartSaid) → part < length parts → IsPartOf ask said firsts part (slice_index_or parts part d)
  pub printed : IsPartsText ask.output said.tariff (flat_map (λ part. part.books) parts) (flat_map (λ part. part.calls) parts) text
  pub refused : refusals ≡ added_up (map (λ part. part.refusals) parts)
  pub unplaced : AreByCall (flat_map (λ part. part.unplaced) parts) events
  -- each number in the table of their books has its type
  pub typed : ask.output ≡ output.Book → All IsTyped (flat_map (λ part. part.books) parts)

-- ---- of the rows of a script, over a setup

-- a part with these rows was played
pub record IsPlayedPart (ask : RunAsk) (setup : Setup) (firsts : List ℕ) (part : ℕ) (rows : List ScriptRow) (kept : PartSaid) : Type 0 where
  pub workers : are_workers ask.workers ≡ true
  pub given : List (ℕ × Body)
  pub heard : List (List Answer)
  pub given_by : IsGivenBy ask (map row_data rows) heard given
  pub books : List Closed
  pub run : IsRun StoodIn setup ask.workers given (all_heard heard) books
  pub own : kept.books ≡ own_books firsts part books
  pub calls : KeepsCalls ask.output (record { setup = setup; given = given; books = books }) kept.calls
  pub refused : kept.refusals ≡ refusals_counted_in (all_heard heard)
  pub unplaced : kept.unplaced ≡ events_in_rows given_by.play.play.unplaced

-- a part with these rows was played, and this is kept of it
pub record IsKeptPart (ask : RunAsk) (setup : Setup) (firsts : List ℕ) (part : ℕ) (rows : List ScriptRow) (kept : Part) : Type 0 where
  pub said : PartSaid
  pub is : IsPlayedPart ask setup firsts part rows said
  pub keeps : KeepsPart ask.output said kept

-- a part for each of these scripts
pub record ArePlayed (ask : RunAsk) (setup : Setup) (firsts : List ℕ) (scripts : List (List ScriptRow)) (parts : List Part) : Type 0 where
  pub count : length parts ≡ length scripts
  pub each : (part : ℕ) (d : Part) → part < length parts → IsKeptPart ask setup firsts part (slice_index_or scripts part []) (slice_index_or parts part d)

-- rows were played in parts
pub record IsInParts (asked : ℕ) (ask : RunAsk) (setup : Setup) (rows : List ScriptRow) (text : List ℕ) (refusals : Refusals) (events : List UnplacedEvent) : Type 0 where
  pub firsts : List ℕ
  pub count : 1 + length firsts ≡ part_count asked (length setup.accounts)
  pub parts : List PartSaid
  pub all : length parts ≡ 1 + length firsts
  pub each : (part : ℕ) (d : PartSaid) → part < length parts
      → IsPlayedPart ask setup firsts part (part_rows firsts (payer_of (with_digits setup.subscribers) (map row_data rows)) rows part) (slice_index_or parts part d)
  pub printed : IsPartsText ask.output setup.tariff (flat_map (λ part. part.books) parts) (flat_map (λ part. part.calls) parts) text
  pub typed : ask.output ≡ output.Book → All IsTyped (flat_map (λ part. part.books) parts)
  pub refused : refusals ≡ added_up (map (λ part. part.refusals) parts)
  pub unplaced : AreByCall (flat_map (λ part. part.unplaced) parts) events
