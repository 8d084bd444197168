-- What the audit of a table of books says.
use Rattle.std.specs.Prelude.{◌≡◌, ℕ, Bool, true, false, List, [], ◌∷◌, ◌++◌, Option, Some, None, Result, Ok, Err, codes, is_none, if◌then◌else◌, length, reverse}
use Rattle.std.specs.Fmt.{decimal}
use Rattle.std.specs.List.{AllZip, flat_map, list_all}
use Rattle.account_core.specs.Answers.{IsLegal}
use Rattle.account_core.specs.Available.{available}
use Rattle.account_core.specs.Checked.{entries_counted}
use Rattle.account_core.specs.Closed.{Closed}
use Rattle.table_core.specs.Faults.{RefusesTable}
use Rattle.table_core.specs.Rows.{Fields}
use Rattle.table_core.specs.declared.fault.RowFault.{RowFault}
use Rattle.table_core.specs.declared.fault.TableFault.{TableFault}
use Rattle.book_texts.specs.Books.{Books, Booked, books_of}
use Rattle.book_texts.specs.RunTexts.{AreCallLines, account_text, call_line}
use Rattle.book_texts.specs.Wrongs.{IsWrongRow, wrong_line}
use Rattle.book_texts.specs.declared.lines.CallLine.{CallLine}
use Rattle.book_texts.specs.declared.wrong_row.WrongRow.{WrongRow}

-- an account, and its first wrong row, if it has one
abbrev pub AccountVerdict : Type 0
AccountVerdict = ℕ × Option WrongRow

-- the history of an account is legal from its opening; or it isn't, and this row is the first that is wrong
abbrev pub HasVerdict : ℕ → List Fields → ℕ → Booked → Option WrongRow → Type 0
HasVerdict most rows account booked None = IsLegal booked.opening booked.until booked.history
HasVerdict most rows account booked (Some wrong) = (IsLegal booked.opening booked.until booked.history → ⊥) × IsWrongRow most rows account wrong

-- the verdict on an account
abbrev pub IsVerdict : ℕ → List Fields → ℕ × Booked → AccountVerdict → Type 0
IsVerdict most rows book verdict = (verdict.0 ≡ book.0) × HasVerdict most rows book.0 book.1 verdict.1

-- a verdict on each account, in order
abbrev pub AreVerdicts : ℕ → List Fields → Books → List AccountVerdict → Type 0
AreVerdicts most rows books verdicts = AllZip (IsVerdict most rows) books verdicts

-- `yes` or `no`
abbrev pub yes_or_no : Bool → List ℕ
yes_or_no true = codes "yes"
yes_or_no false = codes "no"

-- `account A yes`, or `no`
abbrev pub verdict_line : ℕ → Bool → List ℕ
verdict_line account legal = codes "account " ++ (decimal account ++ (codes " " ++ (yes_or_no legal ++ codes "\n")))

-- the line of a wrong row, where there is one
abbrev pub wrong_row_line : ℕ → Option WrongRow → List ℕ
wrong_row_line account None = []
wrong_row_line account (Some wrong) = wrong_line account wrong

-- the line of a verdict, and behind it that of the row where rows are shown
abbrev pub verdict_lines : Bool → AccountVerdict → List ℕ
verdict_lines shown verdict = verdict_line verdict.0 (is_none verdict.1) ++ (if shown then wrong_row_line verdict.0 verdict.1 else [])

-- the lines of an audit, and whether each verdict is yes
pub record Audited : Type 0 where
  pub lines : List ℕ
  pub passes : Bool

-- what is said of these verdicts
abbrev pub audited : Bool → List AccountVerdict → Audited
audited shown verdicts = record { lines = flat_map (verdict_lines shown) verdicts; passes = list_all (λ verdict. is_none verdict.1) verdicts }

-- the book of what is booked of an account
abbrev pub book_by : ℕ × Booked → Closed
book_by (account, booked) = record { account = account; opening = booked.opening; until = booked.until; limit = length booked.history; history = booked.history }

-- the books of the accounts whose verdict is yes
abbrev pub passed_books : Books → List AccountVerdict → List Closed
passed_books [] verdicts = []
passed_books (book ∷ books) [] = []
passed_books (book ∷ books) (verdict ∷ verdicts) = if is_none verdict.1 then book_by book ∷ passed_books books verdicts else passed_books books verdicts

-- the line of an account that came to this, its entries counted in 64 bits
abbrev pub summed_line : Closed → List ℕ
summed_line book = account_text book.account book.opening (available book.opening (reverse book.history)) (entries_counted (length book.history))

-- what is said of an account: what it came to, where its verdict is yes; else its verdict
abbrev pub sum_lines : Bool → ℕ × Booked → AccountVerdict → List ℕ
sum_lines shown book verdict = if is_none verdict.1 then summed_line (book_by book) else verdict_lines shown verdict

-- the same of each account
abbrev pub all_sum_lines : Bool → Books → List AccountVerdict → List ℕ
all_sum_lines shown [] verdicts = []
all_sum_lines shown (book ∷ books) [] = []
all_sum_lines shown (book ∷ books) (verdict ∷ verdicts) = sum_lines shown book verdict ++ all_sum_lines shown books verdicts

-- what is said of books where their lines are asked for: that of each account, and then the lines of the calls of those whose verdict is yes
pub record IsSummedUp (shown : Bool) (books : Books) (verdicts : List AccountVerdict) (audit : Audited) : Type 0 where
  pub calls : List CallLine
  pub are : AreCallLines (passed_books books verdicts) calls
  pub lines : audit.lines ≡ all_sum_lines shown books verdicts ++ flat_map call_line calls
  pub passes : audit.passes ≡ list_all (λ verdict. is_none verdict.1) verdicts

-- what is said of books with these verdicts, their lines or the verdicts
abbrev pub IsSaidOfBooks : Bool → Bool → Books → List AccountVerdict → Audited → Type 0
IsSaidOfBooks false shown books verdicts audit = audit ≡ audited shown verdicts
IsSaidOfBooks true shown books verdicts audit = IsSummedUp shown books verdicts audit

-- an audit of the books of a table says their lines, or the verdicts on them
pub record IsAuditOf (most : ℕ) (lines shown : Bool) (rows : List Fields) (books : Books) (audit : Audited) : Type 0 where
  pub verdicts : List AccountVerdict
  pub are : AreVerdicts most rows books verdicts
  pub said : IsSaidOfBooks lines shown books verdicts audit

-- an answer is an audit of the books, or the fault that they have
abbrev pub GivesAuditOf : ℕ → Bool → Bool → List Fields → Result Audited TableFault → Result Books RowFault → Type 0
GivesAuditOf most lines shown rows (Ok audit) (Ok books) = IsAuditOf most lines shown rows books audit
GivesAuditOf most lines shown rows (Ok audit) (Err why) = ⊥
GivesAuditOf most lines shown rows (Err fault) meaning = RefusesTable fault meaning

-- an answer is an audit of a table of at most so many rows, with the lines of its books or not, its wrong rows shown or not; or the table's fault
abbrev pub GivesAudit : ℕ → Bool → Bool → List Fields → Result Audited TableFault → Type 0
GivesAudit most lines shown rows answer = GivesAuditOf most lines shown rows answer (books_of most rows)
