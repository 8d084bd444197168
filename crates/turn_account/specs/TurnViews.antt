-- An account that is handed on by turns, and its seats, as their callers see them.
use Rattle.std.specs.Prelude.{◌≡◌, ℕ, List, [], ◌∷◌, ◌++◌}
use Rattle.std.proofs.Common.{zero, suc}
use Rattle.atomic_table.specs.Seated.{TableId}
use Rattle.account_core.specs.Entries.{EntryData}
use Rattle.account_core.specs.Ledger.{Ledger}
use Rattle.account_core.specs.Own.{own}
use Rattle.account_core.specs.Terms.{Terms}

-- which account it is, which no other shares, and what it was made with
pub record TurnView : Type 0 where
  pub table : TableId
  pub terms : Terms

-- which account a seat is of; its number; and its view, the account as the seat has last seen it
pub record TurnSeatView : Type 0 where
  pub table : TableId
  pub number : ℕ
  pub view : Ledger

-- a seat's own entries: those of its number in what it has seen
abbrev pub own_of : TurnSeatView → List EntryData
own_of seat = own seat.number seat.view.history

-- an account before any entry
abbrev pub unused : Terms → Ledger
unused terms = record { opening = terms.opening; until = terms.until; limit = terms.limit; history = [] }

-- the first seats of an account: numbered from 0, each with this view
abbrev pub fresh_turn_seats : TableId → Ledger → ℕ → List TurnSeatView
fresh_turn_seats table view zero = []
fresh_turn_seats table view (suc seats) = fresh_turn_seats table view seats ++ record { table = table; number = seats; view = view } ∷ []

-- the same seat of the same account, which was opened alike
pub record IsSameSeat (before after : TurnSeatView) : Type 0 where
  pub table : after.table ≡ before.table
  pub number : after.number ≡ before.number
  pub opening : after.view.opening ≡ before.view.opening
  pub until : after.view.until ≡ before.view.until
  pub limit : after.view.limit ≡ before.view.limit
