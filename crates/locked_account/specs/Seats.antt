-- The seats of an account under its lock, as their callers see them.
use Rattle.std.specs.Prelude.{ℕ, List, [], ◌∷◌, ◌++◌}
use Rattle.std.proofs.Common.{zero, suc}
use Rattle.account_core.specs.Entries.{EntryData}
use Rattle.account_core.specs.Seats.{Reads}

-- the account that a seat is of, its number there, and its own entries, oldest first
pub record SeatView : Type 0 where
  pub account : ℕ
  pub number : ℕ
  pub mine : List EntryData

-- what an account under its lock says of its seats
abbrev pub seat_reads : Reads ℕ SeatView
seat_reads = record { key = λ seat. seat.account; number = λ seat. seat.number; mine = λ seat. seat.mine }

-- the first seats of an account: numbered from 0, without entries
abbrev pub fresh_seats : ℕ → ℕ → List SeatView
fresh_seats account zero = []
fresh_seats account (suc seats) = fresh_seats account seats ++ record { account = account; number = seats; mine = [] } ∷ []
