-- What an audit says of the books of a run over an input, and what its calls have paid.
use Rattle.std.specs.Prelude.{◌≡◌, ◌≢◌, ◌⊎◌, ◌≤◌, ℕ, true, List, All, sum_by}
use Rattle.run_laws.specs.Printable.{row_count}
use Rattle.book_texts.specs.Sizes.{most_rows}
use Rattle.book_texts.specs.Typed.{IsTyped}
use Rattle.book_texts.specs.declared.size.BookSize.TheVariants as size
use Rattle.run_laws.specs.Books.{PassTheAudit}
use Rattle.run_outputs.specs.Records.{AreRecords, IsRecord, Run}
use Rattle.run_outputs.specs.declared.call_record.CallRecord.{CallRecord}
use Rattle.run_outputs.specs.declared.outcome.Outcome.TheVariants as outcome
use Rattle.run_command.specs.Books.{AreBooksOf}
use Rattle.run_command.specs.Plays.{IsGivenBy}
use Rattle.run_command.specs.Starts.{InputIsInRange}
use Rattle.run_values.specs.declared.options.RunAsk.{RunAsk}
use Rattle.run_laws.specs.Records.{IsServedRun, IsUntalked, PaysItsRoute, paid_by_calls}
use Rattle.run_laws.specs.Starts.{HaveTheirStarts}
use Rattle.run_texts.specs.Inputs.{RunInput}
use Rattle.run_values.specs.declared.post.Answer.{Answer}
use Rattle.run_values.specs.declared.post.Body.{Body}
use Rattle.run_values.specs.Openings.{HasAccounts}
use Rattle.runs_core.specs.Teams.{are_workers}
use Rattle.account_core.specs.Closed.{Closed}
use Rattle.turn_account.specs.Seen.{StoodIn}

-- the table of books passes a long audit, and a short one where that takes as many rows
pub record PassTheirAudits (books : List Closed) : Type 0 where
  pub long : PassTheAudit (most_rows size.Long) books
  pub short : row_count books ≤ most_rows size.Short → PassTheAudit (most_rows size.Short) books

-- so does that of the books of a run over it
abbrev pub PlayedBooksPass : Type 0
PlayedBooksPass =
    (ask : RunAsk) (said : RunInput) (given : List (ℕ × Body)) (heard : List (List Answer)) (books : List Closed) → are_workers ask.workers ≡ true → InputIsInRange said
    → IsGivenBy ask said.script heard given → AreBooksOf ask said given heard books → All IsTyped books → PassTheirAudits books

-- what the records of a run's calls say of what was paid
pub record CallsHavePaid (run : Run) : Type 0 where
  -- all together, what the calls of its books have paid
  pub sums_up : (records : List CallRecord) → AreRecords run records → sum_by (λ call. call.paid) records ≡ sum_by paid_by_calls run.books
  -- a call to a number without a route, nothing
  pub unrouted : (call : CallRecord) → IsRecord run call → call.outcome ≡ outcome.NoRoute → call.paid ≡ 0
  -- a call without a forfeit, the price of its times by the route at its start; or nothing, where it has no times
  pub routed : (call : CallRecord) → IsRecord run call → call.outcome ≢ outcome.Forfeit → IsUntalked call ⊎ PaysItsRoute run call
  -- and it is such a run as the laws of records are about: one that was served, where each InitialDP is the one that its call starts with
  pub served : IsServedRun StoodIn run
  pub starts : HaveTheirStarts run.given

-- so it is where a script is played
abbrev pub PlayedCallsHavePaid : Type 0
PlayedCallsHavePaid =
    (ask : RunAsk) (said : RunInput) (given : List (ℕ × Body)) (heard : List (List Answer)) (books : List Closed) → are_workers ask.workers ≡ true → HasAccounts said.setup.accounts
    → IsGivenBy ask said.script heard given → (are : AreBooksOf ask said given heard books) → CallsHavePaid (record { setup = are.setup; given = given; books = books })
