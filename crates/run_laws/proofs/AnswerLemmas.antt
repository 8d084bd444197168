-- What holds of what `run` and `run_tables` answer, by what holds of a played script.
use Rattle.std.proofs.Common.{ℕ, List}
use Rattle.run_command.specs.Books.{AreBooksOf}
use Rattle.run_command.specs.InParts.{IsRunInParts}
use Rattle.run_laws.specs.Answered.{AnsweredCallsHavePaid, CallsOfPartsHavePaid, CallsOfTablesHavePaid, PartsHaveAllAccounts, AnsweredBooksPass, AnsweredPartsPass, AnsweredTablesPass}
use Rattle.run_laws.specs.Joined.{AreAllParts, JoinedBooksHaveAllAccounts, JoinedBooksPass}
use Rattle.run_laws.specs.Played.{PlayedBooksPass, PlayedCallsHavePaid}
use Rattle.run_values.specs.declared.options.RunAsk.{RunAsk}
use Rattle.run_outputs.specs.Parts.{part_script, payer_of}
use Rattle.run_outputs.specs.declared.refusals.Refusals.{Refusals}
use Rattle.run_outputs.specs.declared.unplaced.UnplacedEvent.{UnplacedEvent}
use Rattle.run_texts.specs.Inputs.{RunInput}

-- ---- the table of the books

pub books_pass : PlayedBooksPass → AnsweredBooksPass
books_pass pass ask input ran is asked = pass ask is.said is.given is.heard is.books is.workers is.range is.given_by is.are_books (is.typed asked)

pub tables_pass : PlayedBooksPass → AnsweredTablesPass
tables_pass pass ask input tables are = pass ask are.said are.given are.heard are.books are.workers are.range are.given_by are.are_books are.typed

all_parts_of : (asked : ℕ) (ask : RunAsk) (input text : List ℕ) (refusals : Refusals) (events : List UnplacedEvent) (is : IsRunInParts asked ask input text refusals events)
    → AreAllParts ask is.said is.firsts is.parts
all_parts_of asked ask input text refusals events is = record { workers = is.workers; range = is.range; all = is.all; each = is.each }

pub parts_pass : JoinedBooksPass → AnsweredPartsPass
parts_pass pass asked ask input text refusals events is book = pass ask is.said is.firsts is.parts (all_parts_of asked ask input text refusals events is) (is.typed book)

pub parts_have_all : JoinedBooksHaveAllAccounts → PartsHaveAllAccounts
parts_have_all have asked ask input text refusals events is = have ask is.said is.firsts is.parts (all_parts_of asked ask input text refusals events is)

-- ---- its calls

pub answers_paid : PlayedCallsHavePaid → AnsweredCallsHavePaid
answers_paid paid ask input ran is = paid ask is.said is.given is.heard is.books is.workers is.range.accounts is.given_by is.are_books

pub tables_paid : PlayedCallsHavePaid → CallsOfTablesHavePaid
tables_paid paid ask input tables are = paid ask are.said are.given are.heard are.books are.workers are.range.accounts are.given_by are.are_books

-- a part is a run over the same accounts, by its own script
pub parts_paid : PlayedCallsHavePaid → CallsOfPartsHavePaid
parts_paid paid asked ask input text refusals events is part d within =
    let its = is.each part d within in
    let own : RunInput = record is.said { script = part_script is.firsts (payer_of is.said.setup.subscribers is.said.script) is.said.script part } in
    let of_input = its.are_books.of_input in
    let own_are : AreBooksOf ask own its.given its.heard its.books = record {
      setup = its.are_books.setup;
      of_input = record {
        accounts = of_input.accounts;
        subscribers = of_input.subscribers;
        tariff = of_input.tariff;
        wanted = of_input.wanted;
        least = of_input.least;
        limit = of_input.limit;
      };
      run = its.are_books.run;
    } in
    paid ask own its.given its.heard its.books is.workers is.range.accounts its.given_by own_are
