-- What is printed of books is read back.
use Rattle.std.specs.Prelude.{◌≡◌, ◌≤◌, ℕ, Bool, true, false, List, None, map, Ok}
use Rattle.std.specs.List.{All}
use Rattle.account_core.specs.Answers.{IsLegal}
use Rattle.account_core.specs.Closed.{Closed}
use Rattle.table_core.specs.Rows.{rows_of}
use Rattle.book_texts.specs.Audits.{Audited, GivesAudit, audited}
use Rattle.book_texts.specs.BookTexts.{book_text, version_of}
use Rattle.book_texts.specs.Books.{books_of}
use Rattle.run_laws.specs.Printable.{ArePrintable, account_of_book}
use Rattle.book_texts.specs.RunTexts.{IsRunText}

-- the table that is printed of books is read back to the opening and the history of each
abbrev pub BooksAreRead : Type 0
BooksAreRead =
    (most : ℕ) (steps : Bool) (books : List Closed) → ArePrintable most books → books_of most (rows_of (book_text (version_of steps books) books)) ≡ Ok (map account_of_book books)

-- where their histories are legal, an audit of that table says yes for each
abbrev pub PrintedBooksPass : Type 0
PrintedBooksPass =
    (most : ℕ) (steps shown : Bool) (books : List Closed) (audit : Audited) → ArePrintable most books → All (λ book. IsLegal book.opening book.until book.history) books
    → GivesAudit most false shown (rows_of (book_text (version_of steps books) books)) (Ok audit) → audit ≡ audited shown (map (λ book. (book.account, None)) books)

-- and where lines are asked for, it says the lines of the books
abbrev pub PrintedBooksHaveTheirLines : Type 0
PrintedBooksHaveTheirLines =
    (most : ℕ) (steps shown : Bool) (books : List Closed) (audit : Audited) → most ≤ 18446744073709551615 → ArePrintable most books
    → All (λ book. IsLegal book.opening book.until book.history) books
    → GivesAudit most true shown (rows_of (book_text (version_of steps books) books)) (Ok audit) → (audit.passes ≡ true) × IsRunText books audit.lines
