-- What the checks of histories are while a table of books is read, and what they say.
use Rattle.std.specs.Prelude.{◌≡◌, ◌⊎◌, ℕ, List, Option, Some, None, Result, Ok, Err, ⊤, map, reverse, string_bytes}
use Rattle.std.specs.BTreeMap.{insert_entry, is_at}
use Rattle.std.specs.List.{AllZip}
use Rattle.std.specs.Map.{lookup}
use Rattle.std.specs.Ordering.{nat_cmp}
use Rattle.account_core.specs.Answers.{IsAnswered, IsLegal}
use Rattle.account_core.specs.Checked.{IsCheckOf}
use Rattle.account_core.specs.Entries.{EntryData, entry_data}
use Rattle.account_core.specs.Wrong.{IsWrong}
use Rattle.account_core.specs.declared.entry.Reply.{Reply}
use Rattle.account_core.specs.declared.fault.AccountFault.{AccountFault}
use Rattle.account_core.specs.declared.history_check.HistoryCheck.{HistoryCheck}
use Rattle.account_core.specs.Rising.{AreRising}
use Rattle.table_core.specs.Faults.{RefusesTable}
use Rattle.table_core.specs.Rows.{Fields}
use Rattle.table_core.specs.declared.fault.RowFault.{RowFault}
use Rattle.table_core.specs.declared.fault.RowKind.{RowKind}
use Rattle.table_core.specs.declared.fault.TableFault.{TableFault}
use Rattle.book_texts.specs.Audits.{Audited, HasVerdict, AccountVerdict}
use Rattle.book_texts.specs.BookRows.{Enters, RowSaid}
use Rattle.book_texts.specs.Books.{Books, Booked, account_so_far}
use Rattle.book_texts.specs.declared.account_checks.AccountChecks.{AccountChecks}
use Rattle.book_texts.specs.declared.account_checks.AccountChecks.TheVariants.{Rising, Mixed}
use Rattle.book_texts.specs.declared.audit.Audit.{Audit}
use Rattle.book_texts.specs.declared.audit.Checked.{Checked}
use Rattle.book_texts.specs.declared.wrong_row.WrongRow.{WrongRow}

-- an account's check has heard its history
abbrev pub IsCheck : ℕ × Booked → ℕ × HistoryCheck → Type 0
IsCheck book check = (check.0 ≡ book.0) × IsCheckOf book.1.opening book.1.until (reverse book.1.history) check.1

-- each account has its check, in order
abbrev pub AreChecks : Books → List (ℕ × HistoryCheck) → Type 0
AreChecks books checks = AllZip IsCheck books checks

-- each account with its check, by rising number
abbrev pub checks_by_account : AccountChecks → List (ℕ × HistoryCheck)
checks_by_account (Rising list) = list.items
checks_by_account (Mixed map) = map.entries

-- the accounts of a list rise; a map keeps its order itself
abbrev pub IsOrdered : AccountChecks → Type 0
IsOrdered (Rising list) = AreRising list.items
IsOrdered (Mixed map) = ⊤

-- each account has its check, in order
abbrev pub HaveChecks : Books → AccountChecks → Type 0
HaveChecks books checks = AreChecks books (checks_by_account checks) × IsOrdered checks

-- a row is refused where its meaning is that fault, and the checks are still those of the books before it; else they are those of the books after it
abbrev pub ListComes : Books → Option RowKind → Result Books RowKind → List (ℕ × HistoryCheck) → Type 0
ListComes before None (Ok books) checks = AreChecks books checks
ListComes before None (Err why) checks = ⊥
ListComes before (Some kind) (Ok books) checks = ⊥
ListComes before (Some kind) (Err why) checks = (kind ≡ why) × AreChecks before checks

-- the same of the checks while a table is read
abbrev pub Comes : Books → Option RowKind → Result Books RowKind → AccountChecks → Type 0
Comes before None (Ok books) checks = HaveChecks books checks
Comes before None (Err why) checks = ⊥
Comes before (Some kind) (Ok books) checks = ⊥
Comes before (Some kind) (Err why) checks = (kind ≡ why) × HaveChecks before checks

-- an entry of an account was heard: it is what the account answers, where the history before it is legal; or that history is legal, and this is what the account answers in its place
abbrev pub HearsBy : Booked → EntryData → Option (Result Reply AccountFault) → Type 0
HearsBy booked entry None = IsLegal booked.opening booked.until booked.history → IsAnswered booked.opening booked.until (reverse booked.history) entry
HearsBy booked entry (Some right) = IsLegal booked.opening booked.until booked.history × IsWrong booked.opening booked.until (reverse booked.history) entry right

-- an entry was heard, or refused, since its account isn't open
abbrev pub IsHeard : Option Booked → EntryData → Result (Option (Result Reply AccountFault)) RowKind → Type 0
IsHeard None entry (Ok wrong) = ⊥
IsHeard (Some booked) entry (Ok wrong) = HearsBy booked entry wrong
IsHeard booked entry (Err kind) = booked ≡ None

-- ---- wrong rows

-- the wrong row of an account, if it has one
abbrev pub wrong_of : ℕ → List (ℕ × WrongRow) → Option WrongRow
wrong_of account wrongs = lookup (is_at (nat_cmp account)) wrongs

-- what is booked of an account, if it is open, has its verdict by the rows so far
abbrev pub HasItsVerdict : ℕ → List Fields → ℕ → Option Booked → Option WrongRow → Type 0
HasItsVerdict most rows account None wrong = wrong ≡ None
HasItsVerdict most rows account (Some booked) wrong = HasVerdict most rows account booked wrong

-- each account has its verdict by these rows
abbrev pub HaveVerdicts : ℕ → List Fields → Books → List (ℕ × WrongRow) → Type 0
HaveVerdicts most rows books wrongs = (account : ℕ) → HasItsVerdict most rows account (account_so_far account books) (wrong_of account wrongs)

-- an entry of an account in the row of a number adds itself to the wrong rows, where it is the first that is wrong
abbrev pub NotesEntry : ℕ → ℕ → Booked → EntryData → List (ℕ × WrongRow) → List (ℕ × WrongRow) → Type 0
NotesEntry number account booked entry before after =
    ((IsLegal booked.opening booked.until booked.history → IsAnswered booked.opening booked.until (reverse booked.history) entry) × (after ≡ before))
    ⊎ ((wrong : WrongRow) × (wrong.row ≡ number) × (entry_data wrong.entry ≡ entry) × HearsBy booked entry (Some wrong.right) × (after ≡ insert_entry nat_cmp before account wrong))

-- what a row says is noted so: an opening adds nothing
abbrev pub AreNoted : ℕ → Books → Result RowSaid RowKind → List (ℕ × WrongRow) → List (ℕ × WrongRow) → Type 0
AreNoted number books (Ok (Enters account entry)) before after = (booked : Booked) → account_so_far account books ≡ Some booked → NotesEntry number account booked entry before after
AreNoted number books said before after = after ≡ before

-- ---- all of a table

-- the verdict on each account that has a check
abbrev pub verdicts_of : List (ℕ × HistoryCheck) → List (ℕ × WrongRow) → List AccountVerdict
verdicts_of checks wrongs = map (λ check. (check.0, wrong_of check.0 wrongs)) checks

-- the checks and the wrong rows are those of the table's books
pub record AreChecksOf (most : ℕ) (rows : List Fields) (books : Books) (checked : Checked) : Type 0 where
  pub checks : AreChecks books checked.checks.items
  pub wrongs : HaveVerdicts most rows books checked.wrongs

-- an answer is the checks of the table's books, or the table's fault
abbrev pub GivesChecks : ℕ → List Fields → Result Checked TableFault → Result Books RowFault → Type 0
GivesChecks most rows (Ok checked) (Ok books) = AreChecksOf most rows books checked
GivesChecks most rows (Ok checked) (Err why) = ⊥
GivesChecks most rows (Err fault) meaning = RefusesTable fault meaning

-- what an audit of the code says
abbrev pub audited_by : Audit → Audited
audited_by audit = record { lines = string_bytes audit.lines; passes = audit.passes }
