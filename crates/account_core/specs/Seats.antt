-- Seats as their callers see them.
use Rattle.std.specs.Prelude.{◌+◌, ◌==◌, ◌&&◌, ℕ, Bool, true, List, [], ◌∷◌, length}
use Rattle.account_core.specs.Entries.{EntryData}

-- what a form of a shared account says of its seats: the key of a seat's account, the seat's number there, and its own entries, oldest first
pub record Reads (K T : Type 0) : Type 0 where
  pub key : T → K
  pub number : T → ℕ
  pub mine : T → List EntryData

-- whether numbers go on from the first by ones
abbrev pub are_numbered : ℕ → List ℕ → Bool
are_numbered first [] = true
are_numbered first (number ∷ numbers) = (number == first) && are_numbered (first + 1) numbers

-- whether these are the numbers of all seats of an account, in order
abbrev pub are_all : ℕ → List ℕ → Bool
are_all seats numbers = (length numbers == seats) && are_numbered 0 numbers
