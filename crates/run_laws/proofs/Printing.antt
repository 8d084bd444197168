-- The books of a run can be printed, and pass the audit.
use Rattle.std.proofs.Common.{◌≤◌, ℕ, List, map, arith, All}
use Rattle.std.specs.Prelude.{slice_index_or}
use Rattle.std.specs.List.Sorted.{IsStrictlySortedBy}
use Rattle.std.specs.Ordering.{nat_cmp}
use Rattle.account_core.specs.Answers.{IsLegal}
use Rattle.account_core.specs.Laws.{EntriesAreInRange}
use Rattle.run_laws.specs.PrintedBooks.{BooksAreRead, PrintedBooksHaveTheirLines, PrintedBooksPass}
use Rattle.run_laws.specs.Printable.{ArePrintable, row_count}
use Rattle.run_laws.proofs.Entries.{history_fits}
use Rattle.run_laws.proofs.Openings.{IsOpenedWithin, accounts_are, accounts_rise, as_many, book_of, opened_within}
use Rattle.run_laws.proofs.RowCounts.{counted, limits_are}
use Rattle.run_laws.specs.Books.{AuditableBooksHaveFewRows, AuditableBooksPass, IsAuditable, RunBooksAreAuditable, RunBooksHaveTheirAccounts, RunsArePrintable, RunsHaveFewRows, RunsPassTheAudit}
use Rattle.run_laws.specs.Runs.{IsRecorded, IsTimelyRun}
use Rattle.run_values.specs.Setups.{Setup}
use Rattle.run_values.specs.declared.post.Body.{Body}
use Rattle.held_calls.specs.Entered.{ReservesAreInTheBooks, RunEntriesAreServed}
use Rattle.account_core.specs.Closed.{Closed}
use Rattle.account_core.specs.Refusals.{Knowing}

-- ---- such books, of whatever runs they are

all_printable : (most limit : ℕ) (books : List Closed) → All (IsAuditable limit) books → IsStrictlySortedBy nat_cmp (map (λ book. book.account) books) → row_count books ≤ most
    → ArePrintable most books
all_printable most limit books are rising room = record { rising = rising; fit = λ k d within. (are k d within).fits; room = room }

pub all_pass : BooksAreRead → PrintedBooksPass → PrintedBooksHaveTheirLines → AuditableBooksPass
all_pass read passes lines most limit books are rising room =
    let prints : ArePrintable most books = all_printable most limit books are rising room in
    let legal : All (λ book. IsLegal book.opening book.until book.history) books = λ k d within. (are k d within).legal in
    record {
      read = λ steps. read most steps books prints;
      verdicts = λ steps shown audit gives. passes most steps shown books audit prints legal gives;
      lines = λ steps shown audit small gives. lines most steps shown books audit small prints legal gives;
    }

pub all_few : AuditableBooksHaveFewRows
all_few limit books are = counted limit books (λ k d within. (are k d within).few)

-- ---- the books of a run

pub have_accounts : (Stood : Closed → ℕ → Knowing) → RunBooksHaveTheirAccounts Stood
have_accounts Stood setup workers given answers books is = accounts_are setup workers books is.may_be is.run.opened is.accounts

module _ (Stood : Closed → ℕ → Knowing) (serves : RunEntriesAreServed Stood) (reserves : ReservesAreInTheBooks Stood) (ranges : EntriesAreInRange) where
  pub auditable : RunBooksAreAuditable Stood
  auditable setup workers given answers books is = λ place d within typed.
      let opened : IsOpenedWithin workers (slice_index_or books place d) = opened_within setup workers books is.may_be is.run.opened is.accounts place d within in
      record {
        fits = record {
          account = typed.account;
          opening = opened.opening;
          until = opened.until;
          history = history_fits Stood serves reserves ranges setup workers given answers books is.run is.timely place d within
              (book_of setup workers books is.may_be is.run.opened is.accounts place d within) opened typed;
        };
        legal = is.run.legal place d within;
        few = let limit = limits_are setup workers books is.run.opened place d within in omega (arith, limit, typed.within_limit);
      }

  module _ (setup : Setup) (workers : ℕ) (given : List (ℕ × Body)) (books : List Closed) (is : IsRecorded Stood setup workers given books) where
    timely_run : IsTimelyRun Stood setup workers given is.answers books
    timely_run = record { may_be = is.may_be; run = is.run; accounts = is.accounts; timely = is.timely }

    all_auditable : All (IsAuditable setup.limit) books
    all_auditable = λ k d within. auditable setup workers given is.answers books timely_run k d within (is.typed k d within)

    rise : IsStrictlySortedBy nat_cmp (map (λ book. book.account) books)
    rise = accounts_rise setup workers books is.may_be is.run.opened is.accounts

  pub printable : RunsArePrintable Stood
  printable most setup workers given books is room =
      all_printable most setup.limit books (all_auditable setup workers given books is) (rise setup workers given books is) room

  pub pass : AuditableBooksPass → RunsPassTheAudit Stood
  pass passes most setup workers given books is room =
      passes most setup.limit books (all_auditable setup workers given books is) (rise setup workers given books is) room

  pub few_rows : RunsHaveFewRows Stood
  few_rows setup workers given books is =
      let many = as_many setup workers books is.may_be is.run.opened is.accounts in
      let all = all_few setup.limit books (all_auditable setup workers given books is) in
      rw many at all
