-- What the seats of a turn account have seen, and where a book shows it.
use Rattle.std.specs.Prelude.{◌≡◌, ℕ, List, true, All}
use Rattle.account_core.specs.Entries.{EntryData}
use Rattle.account_core.specs.Ledger.{Ledger}
use Rattle.account_core.specs.Closed.{Closed}
use Rattle.account_core.specs.Own.{asks_of_call, own}
use Rattle.account_core.specs.Prefixes.{IsPrefix}
use Rattle.account_core.specs.Refusals.{IsAlone, Refusal}
use Rattle.turn_account.specs.TurnViews.{TurnSeatView}

-- when the seat's own entries were these, the account that refused it was this: it was opened as the seat's view says, and its history begins what the seat has seen
pub record HasSeen (seat : TurnSeatView) (mine : List EntryData) (refusal : Refusal) : Type 0 where
  pub opening : refusal.account.opening ≡ seat.view.opening
  pub until : refusal.account.until ≡ seat.view.until
  pub limit : refusal.account.limit ≡ seat.view.limit
  pub begins : IsPrefix refusal.account.history seat.view.history
  pub own : own seat.number refusal.account.history ≡ mine

-- a book is of an account that was opened as this one was
pub record IsOpenedAs (account : Ledger) (book : Closed) : Type 0 where
  pub opening : book.opening ≡ account.opening
  pub until : book.until ≡ account.until
  pub limit : book.limit ≡ account.limit

-- the account of a book that refused the seat with this number was this when that seat's own entries were these: it was opened as the book says, and its history begins the book's
pub record StoodIn (book : Closed) (seat : ℕ) (mine : List EntryData) (refusal : Refusal) : Type 0 where
  pub opening : refusal.account.opening ≡ book.opening
  pub until : refusal.account.until ≡ book.until
  pub limit : refusal.account.limit ≡ book.limit
  pub begins : IsPrefix refusal.account.history book.history
  pub own : own seat refusal.account.history ≡ mine

-- each entry of a call in a book is by this seat
abbrev pub IsBySeat : Closed → ℕ → ℕ → Type 0
IsBySeat book seat call = All (λ entry. asks_of_call call entry.asked ≡ true → entry.seat ≡ seat) book.history

-- a call whose entries in a book are all by one seat was that seat's alone
abbrev pub CallsOfOneSeatAreAlone : Type 0
CallsOfOneSeatAreAlone = (book : Closed) (seat call : ℕ) → IsBySeat book seat call → IsAlone (StoodIn book seat) call
