-- What holds of what `run` and `run_tables` answer.
use Rattle.std.specs.Prelude.{◌≡◌, ◌<◌, ℕ, List, length, map, slice_index_or}
use Rattle.std.specs.Map.{keys_of}
use Rattle.run_outputs.specs.Records.{Run}
use Rattle.run_command.specs.Answers.{IsRunOf}
use Rattle.run_command.specs.InParts.{IsPartOf, IsRunInParts}
use Rattle.run_command.specs.Tables.{AreTablesOf}
use Rattle.run_laws.specs.Joined.{joined_books}
use Rattle.run_laws.specs.Played.{CallsHavePaid, PassTheirAudits}
use Rattle.run_values.specs.declared.options.RunAsk.{RunAsk}
use Rattle.run_values.specs.declared.options.RunOutput.TheVariants as output
use Rattle.run_outputs.specs.Kept.{PartSaid}
use Rattle.run_outputs.specs.Texts.{RunSaid, TablesSaid}
use Rattle.run_outputs.specs.declared.refusals.Refusals.{Refusals}
use Rattle.run_outputs.specs.declared.unplaced.UnplacedEvent.{UnplacedEvent}
use Rattle.run_texts.specs.Inputs.{RunInput}

-- what an answer of `run` has come to
abbrev pub run_of_answer : (ask : RunAsk) (input : List ℕ) (ran : RunSaid) → IsRunOf ask input ran → Run
run_of_answer ask input ran is = record { setup = is.are_books.setup; given = is.given; books = is.books }

-- what one of `run_tables` has come to
abbrev pub run_of_tables : (ask : RunAsk) (input : List ℕ) (tables : TablesSaid) → AreTablesOf ask input tables → Run
run_of_tables ask input tables are = record { setup = are.are_books.setup; given = are.given; books = are.books }

-- what a part of a run has come to
abbrev pub run_of_part : (ask : RunAsk) (said : RunInput) (firsts : List ℕ) (part : ℕ) (kept : PartSaid) → IsPartOf ask said firsts part kept → Run
run_of_part ask said firsts part kept is = record { setup = is.are_books.setup; given = is.given; books = is.books }

-- ---- the table of the books

-- the table of books that `run` prints passes its audits
abbrev pub AnsweredBooksPass : Type 0
AnsweredBooksPass = (ask : RunAsk) (input : List ℕ) (ran : RunSaid) (is : IsRunOf ask input ran) → ask.output ≡ output.Book → PassTheirAudits is.books

-- so does that which `run_tables` gives beside the other texts of a run
abbrev pub AnsweredTablesPass : Type 0
AnsweredTablesPass = (ask : RunAsk) (input : List ℕ) (tables : TablesSaid) (are : AreTablesOf ask input tables) → PassTheirAudits are.books

-- so does that of a run in parts
abbrev pub AnsweredPartsPass : Type 0
AnsweredPartsPass =
    (asked : ℕ) (ask : RunAsk) (input text : List ℕ) (refusals : Refusals) (events : List UnplacedEvent) (is : IsRunInParts asked ask input text refusals events) → ask.output ≡ output.Book
    → PassTheirAudits (joined_books is.parts)

-- the books of a run in parts are those of all accounts of the input, in order, whatever is printed
abbrev pub PartsHaveAllAccounts : Type 0
PartsHaveAllAccounts =
    (asked : ℕ) (ask : RunAsk) (input text : List ℕ) (refusals : Refusals) (events : List UnplacedEvent) (is : IsRunInParts asked ask input text refusals events)
    → map (λ book. book.account) (joined_books is.parts) ≡ keys_of is.said.setup.accounts

-- ---- the records of the calls

-- the calls of a run that `run` answers have paid as the laws of records say
abbrev pub AnsweredCallsHavePaid : Type 0
AnsweredCallsHavePaid = (ask : RunAsk) (input : List ℕ) (ran : RunSaid) (is : IsRunOf ask input ran) → CallsHavePaid (run_of_answer ask input ran is)

-- so have those of a run that `run_tables` answers
abbrev pub CallsOfTablesHavePaid : Type 0
CallsOfTablesHavePaid = (ask : RunAsk) (input : List ℕ) (tables : TablesSaid) (are : AreTablesOf ask input tables) → CallsHavePaid (run_of_tables ask input tables are)

-- so have those of each part of a run in parts
abbrev pub CallsOfPartsHavePaid : Type 0
CallsOfPartsHavePaid =
    (asked : ℕ) (ask : RunAsk) (input text : List ℕ) (refusals : Refusals) (events : List UnplacedEvent) (is : IsRunInParts asked ask input text refusals events) (part : ℕ) (d : PartSaid)
    (within : part < length is.parts) → CallsHavePaid (run_of_part ask is.said is.firsts part (slice_index_or is.parts part d) (is.each part d within))
