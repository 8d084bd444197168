-- What holds of the table of the books of every run.
use Rattle.std.specs.Prelude.{◌≡◌, ◌≤◌, ◌+◌, ◌*◌, ℕ, Bool, true, false, List, None, length, map, Ok}
use Rattle.std.specs.List.{All}
use Rattle.std.specs.List.Sorted.{IsStrictlySortedBy}
use Rattle.std.specs.Map.{keys_of}
use Rattle.std.specs.Ordering.{nat_cmp}
use Rattle.account_core.specs.Answers.{IsLegal}
use Rattle.book_texts.specs.Audits.{Audited, GivesAudit, audited}
use Rattle.book_texts.specs.BookTexts.{book_text, version_of}
use Rattle.book_texts.specs.Books.{books_of}
use Rattle.run_laws.specs.Printable.{ArePrintable, FitsBook, row_count, account_of_book}
use Rattle.book_texts.specs.RunTexts.{IsRunText}
use Rattle.book_texts.specs.Typed.{IsTyped}
use Rattle.run_laws.specs.Runs.{IsRecorded, IsTimelyRun}
use Rattle.run_values.specs.Setups.{Setup}
use Rattle.run_values.specs.declared.post.Answer.{Answer}
use Rattle.run_values.specs.declared.post.Body.{Body}
use Rattle.account_core.specs.Closed.{Closed}
use Rattle.account_core.specs.Refusals.{Knowing}
use Rattle.table_core.specs.Rows.{rows_of}

-- the text of the table of books, whose tariff has billing steps or not
abbrev pub books_text : Bool → List Closed → List ℕ
books_text steps books = book_text (version_of steps books) books

-- the table of books, of which this many rows are taken, is read back to the opening and the history of each. Whatever audit there is of it, its wrong rows shown or not, says yes for each account, in order, and shows no row; or, where lines are asked for, it says the lines of the books
pub record PassTheAudit (most : ℕ) (books : List Closed) : Type 0 where
  pub read : (steps : Bool) → books_of most (rows_of (books_text steps books)) ≡ Ok (map account_of_book books)
  pub verdicts : (steps shown : Bool) (audit : Audited) → GivesAudit most false shown (rows_of (books_text steps books)) (Ok audit)
      → audit ≡ audited shown (map (λ book. (book.account, None)) books)
  pub lines : (steps shown : Bool) (audit : Audited) → most ≤ 18446744073709551615 → GivesAudit most true shown (rows_of (books_text steps books)) (Ok audit)
      → (audit.passes ≡ true) × IsRunText books audit.lines

-- ---- book by book

-- a book that an audit can take: it fits its columns, its history is legal from its opening, and has at most so many entries
pub record IsAuditable (limit : ℕ) (book : Closed) : Type 0 where
  pub fits : FitsBook book
  pub legal : IsLegal book.opening book.until book.history
  pub few : length book.history ≤ limit

-- so is each book of a run, at the limit of the setup, where its own numbers have their types
abbrev pub RunBooksAreAuditable : (Closed → ℕ → Knowing) → Type 0
RunBooksAreAuditable Stood =
    (setup : Setup) (workers : ℕ) (given : List (ℕ × Body)) (answers : List Answer) (books : List Closed) → IsTimelyRun Stood setup workers given answers books
    → All (λ book. IsTyped book → IsAuditable setup.limit book) books

-- there is a book of each account of the setup, in order
abbrev pub RunBooksHaveTheirAccounts : (Closed → ℕ → Knowing) → Type 0
RunBooksHaveTheirAccounts Stood =
    (setup : Setup) (workers : ℕ) (given : List (ℕ × Body)) (answers : List Answer) (books : List Closed) → IsTimelyRun Stood setup workers given answers books
    → map (λ book. book.account) books ≡ keys_of setup.accounts

-- the table of such books, of whatever runs they are, passes the audit, where their accounts rise and it has room for their rows
abbrev pub AuditableBooksPass : Type 0
AuditableBooksPass =
    (most limit : ℕ) (books : List Closed) → All (IsAuditable limit) books → IsStrictlySortedBy nat_cmp (map (λ book. book.account) books) → row_count books ≤ most → PassTheAudit most books

-- they have no more rows than an opening of each and as many entries of each as the limit
abbrev pub AuditableBooksHaveFewRows : Type 0
AuditableBooksHaveFewRows = (limit : ℕ) (books : List Closed) → All (IsAuditable limit) books → row_count books ≤ length books * (1 + limit)

-- ---- all books of a run

-- the books of a run can be printed into a table that has room for their rows
abbrev pub RunsArePrintable : (Closed → ℕ → Knowing) → Type 0
RunsArePrintable Stood =
    (most : ℕ) (setup : Setup) (workers : ℕ) (given : List (ℕ × Body)) (books : List Closed) → IsRecorded Stood setup workers given books → row_count books ≤ most → ArePrintable most books

-- and their table passes the audit
abbrev pub RunsPassTheAudit : (Closed → ℕ → Knowing) → Type 0
RunsPassTheAudit Stood =
    (most : ℕ) (setup : Setup) (workers : ℕ) (given : List (ℕ × Body)) (books : List Closed) → IsRecorded Stood setup workers given books → row_count books ≤ most → PassTheAudit most books

-- they have no more rows than an opening of each account of the setup, and as many entries of each as its limit
abbrev pub RunsHaveFewRows : (Closed → ℕ → Knowing) → Type 0
RunsHaveFewRows Stood =
    (setup : Setup) (workers : ℕ) (given : List (ℕ × Body)) (books : List Closed) → IsRecorded Stood setup workers given books → row_count books ≤ length setup.accounts * (1 + setup.limit)
