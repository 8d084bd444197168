-- What holds of every book of a run, in words that know nothing of how accounts answer.
use Rattle.std.specs.Prelude.{◌≡◌, ◌+◌, ◌≤◌, ℕ, false, Some, List, ◌++◌, reverse}
use Rattle.account_core.specs.Answers.{IsLegal}
use Rattle.account_core.specs.Available.{credits, taken_by_all}
use Rattle.account_core.specs.Entries.{EntryData}
use Rattle.account_core.specs.Known.{known}
use Rattle.account_core.specs.Laws.{AreReported, IsClosed, last_report, paid_at_return}
use Rattle.account_core.specs.Closed.{Closed}
use Rattle.price_core.specs.Price.{price_at}
use Rattle.price_core.specs.Rates.{Rates}
use Rattle.price_core.specs.declared.plan.TheConstants.{MAX_MONEY}

-- no balance is negative: at no place do all calls take more than the opening and the credits accepted so far
abbrev pub IsSolvent : Closed → Type 0
IsSolvent book = (history later : List EntryData) → book.history ≡ history ++ later → taken_by_all (reverse history) ≤ book.opening + credits (reverse history)

-- each call that was returned, and never forfeited, has paid exactly the price of its times
abbrev pub PaysTheTariff : Closed → Type 0
PaysTheTariff book = (call : ℕ) (plan : Rates) → IsClosed call plan (reverse book.history)
    → paid_at_return call (reverse book.history) ≡ Some (price_at plan (known call (reverse book.history)).times)

-- the times of each call that never forfeited are those that its last report states
abbrev pub ReportsItsTimes : Closed → Type 0
ReportsItsTimes book = (call : ℕ) → (known call (reverse book.history)).forfeited ≡ false
    → AreReported (last_report call (reverse book.history)) (known call (reverse book.history)).times

-- the promise of a book: no balance is negative, each closed call has paid its price, and its last report states its times
pub record IsRight (book : Closed) : Type 0 where
  pub solvent : IsSolvent book
  pub paid : PaysTheTariff book
  pub times : ReportsItsTimes book

-- every book is right whose opening is at most `MAX_MONEY` and whose history is legal
abbrev pub BooksAreRight : Type 0
BooksAreRight = (book : Closed) → book.opening ≤ MAX_MONEY → IsLegal book.opening book.until book.history → IsRight book
