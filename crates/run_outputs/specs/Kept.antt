-- What is kept of the parts of a run.
use Rattle.std.specs.Prelude.{◌≡◌, ◌==◌, ◌++◌, ℕ, List, [], ◌∷◌, map}
use Rattle.std.specs.List.{All, filter, flat_map}
use Rattle.book_texts.specs.BookTexts.{book_text, version_of}
use Rattle.book_texts.specs.RunTexts.{AreLinesOf, IsRunText, LinesSaid}
use Rattle.book_texts.specs.Typed.{IsTyped}
use Rattle.run_outputs.specs.Records.{AreRecords, Run}
use Rattle.run_outputs.specs.Tables.{call_text}
use Rattle.run_outputs.specs.declared.call_record.CallRecord.{CallRecord}
use Rattle.tariff_core.specs.declared.clock.Clock.{Clock}
use Rattle.run_values.specs.declared.options.RunOutput.{RunOutput}
use Rattle.run_values.specs.declared.options.RunOutput.TheVariants as output
use Rattle.run_outputs.specs.Texts.{RunSaid, run_of}
use Rattle.run_outputs.specs.declared.part.Part.{Part}
use Rattle.run_outputs.specs.declared.played.Played.{Played}
use Rattle.run_outputs.specs.Parts.{part_of_account}
use Rattle.run_outputs.specs.Refused.{added_up, with_refusals}
use Rattle.run_outputs.specs.Unplaced.{AreByCall, IsMergedBy, events_in_rows}
use Rattle.run_outputs.specs.declared.refusals.Refusals.{Refusals}
use Rattle.run_outputs.specs.declared.unplaced.UnplacedEvent.{UnplacedEvent}
use Rattle.run_values.specs.Setups.{Setup}
use Rattle.account_core.specs.Closed.{Closed}
use Rattle.tariff_core.specs.Bands.{Band, have_steps}

-- what a part comes to: the books of its own accounts, the records of its calls where these are printed, its refusals, and its events that had no place
pub record PartSaid : Type 0 where
  pub books : List Closed
  pub calls : List CallRecord
  pub refusals : Refusals
  pub unplaced : List UnplacedEvent

-- what two parts come to, one after the other
abbrev pub with_part : PartSaid → PartSaid → PartSaid
with_part said later = record {
  books = said.books ++ later.books;
  calls = said.calls ++ later.calls;
  refusals = with_refusals said.refusals later.refusals;
  unplaced = said.unplaced ++ later.unplaced;
}

-- what all parts come to together, in order
abbrev pub joined_parts : List PartSaid → PartSaid
joined_parts parts = record {
  books = flat_map (λ part. part.books) parts;
  calls = flat_map (λ part. part.calls) parts;
  refusals = added_up (map (λ part. part.refusals) parts);
  unplaced = flat_map (λ part. part.unplaced) parts;
}

-- the books of the accounts of a part
abbrev pub own_books : List ℕ → ℕ → List Closed → List Closed
own_books firsts part books = filter (λ book. part_of_account firsts book.account == part) books

-- the records of a part's calls, where they are printed
abbrev pub KeepsCalls : RunOutput → Run → List CallRecord → Type 0
KeepsCalls (output.Calls clock) run calls = AreRecords run calls
KeepsCalls _ run calls = calls ≡ []

-- what the code keeps of books: themselves, or their lines, where they are printed
abbrev pub KeepsBooks : RunOutput → List Closed → LinesSaid → List Closed → Type 0
KeepsBooks output.Book books lines kept = kept ≡ books
KeepsBooks (output.Calls clock) books lines kept = Unit {0}
KeepsBooks _ books lines kept = AreLinesOf books lines

-- what the code keeps of a part, or of all
pub record KeepsPart (output : RunOutput) (said : PartSaid) (part : Part) : Type 0 where
  pub books : KeepsBooks output said.books part.lines part.books.items
  pub calls : part.calls.items ≡ said.calls
  pub refusals : part.refusals ≡ said.refusals
  pub unplaced : part.unplaced.items ≡ said.unplaced

-- what the code keeps of each of some parts
abbrev pub AreKept : RunOutput → List PartSaid → List Part → Type 0
AreKept output [] [] = Unit {0}
AreKept output (said ∷ rest) (part ∷ parts) = KeepsPart output said part × AreKept output rest parts
AreKept output _ _ = ⊥

-- what the code keeps of a part that was played: of its own books, the records of its calls, its refusals and its events that had no place
pub record KeepsOwn (output : RunOutput) (setup : Setup) (firsts : List ℕ) (number : ℕ) (played : Played) (part : Part) : Type 0 where
  pub books : KeepsBooks output (own_books firsts number played.books.items) part.lines part.books.items
  pub calls : KeepsCalls output (run_of setup played) part.calls.items
  pub refusals : part.refusals ≡ played.refusals
  pub unplaced : part.unplaced.items ≡ events_in_rows played.unplaced.items

-- the table of the calls of all parts: they rise by their numbers
pub record IsMergedText (clock : Clock) (kept : List CallRecord) (text : List ℕ) : Type 0 where
  pub calls : List CallRecord
  pub merged : IsMergedBy (λ call. call.call) kept calls
  pub is : text ≡ call_text clock calls

-- the text of these books or these calls: the lines of accounts and calls, the table of books, of version 4 where the tariff has billing steps, or that of calls
abbrev pub IsPartsText : RunOutput → List Band → List Closed → List CallRecord → List ℕ → Type 0
IsPartsText output.Book tariff books calls text = text ≡ book_text (version_of (have_steps tariff) books) books
IsPartsText (output.Calls clock) tariff books calls text = IsMergedText clock calls text
IsPartsText _ tariff books calls text = IsRunText books text

-- what is printed of all parts, which have come to this
pub record PrintsParts (asked : RunOutput) (tariff : List Band) (said : PartSaid) (ran : RunSaid) : Type 0 where
  pub printed : IsPartsText asked tariff said.books said.calls ran.text
  pub refused : ran.refusals ≡ said.refusals
  pub unplaced : AreByCall said.unplaced ran.unplaced
  pub typed : asked ≡ output.Book → All IsTyped said.books
