-- What is printed of books and calls has no numbers of settles.
use Rattle.std.specs.Prelude.{◌≡◌, ℕ, List, map}
use Rattle.std.specs.List.{filter}
use Rattle.book_texts.specs.RunTexts.{IsRunText}
use Rattle.run_outputs.specs.Records.{AreRecords, Run}
use Rattle.run_outputs.specs.declared.call_record.CallRecord.{CallRecord}
use Rattle.part_laws.specs.Chosen.{AreByAccount, Choice, HasBooksOf, chosen}
use Rattle.part_laws.specs.Numbers.{unnumbered_book}
use Rattle.run_values.specs.Setups.{Setup}
use Rattle.run_values.specs.declared.post.Body.{Body}
use Rattle.account_core.specs.Closed.{Closed}

-- books that are the same but for the numbers of settles have the same lines
abbrev pub LinesHaveNoNumbers : Type 0
LinesHaveNoNumbers =
    (books others : List Closed) (one other : List ℕ) → map unnumbered_book books ≡ map unnumbered_book others → IsRunText books one → IsRunText others other → one ≡ other

-- a run in this setup
abbrev pub run_given : Setup → List (ℕ × Body) → List Closed → Run
run_given setup given books = record { setup = setup; given = given; books = books }

-- the records of a run of all items, of the calls of some accounts alone, are the records of a run of these accounts' items
abbrev pub RecordsAreThoseOfAll : Type 0
RecordsAreThoseOfAll =
    (setup : Setup) (choice : Choice) (given : List (ℕ × Body)) (books own_books : List Closed) (calls : List CallRecord) → AreByAccount setup choice given
    → HasBooksOf choice books own_books → AreRecords (run_given setup given books) calls
    → AreRecords (run_given setup (chosen choice given) own_books) (filter (λ call. choice.calls call.call) calls)
