-- Whose the entries of a history are.
use Rattle.std.specs.Prelude.{◌≡◌, ◌==◌, ◌<◌, ℕ, Bool, false, List, [], length, filter, slice_index_or, All}
use Rattle.account_core.specs.Asked.{Asked, Credits, Reserves, Returns, Settles}
use Rattle.account_core.specs.Entries.{EntryData}

-- a seat's own entries, in order
abbrev pub own : ℕ → List EntryData → List EntryData
own seat history = filter (λ entry. entry.seat == seat) history

-- whether an operation is of this call
abbrev pub asks_of_call : ℕ → Asked → Bool
asks_of_call call (Credits amount moment) = false
asks_of_call call (Reserves other plan wanted least at) = other == call
asks_of_call call (Settles other number info) = other == call
asks_of_call call (Returns other) = other == call

-- a call's entries, in order
abbrev pub of_call : ℕ → List EntryData → List EntryData
of_call call history = filter (λ entry. asks_of_call call entry.asked) history

-- a history merges the lists of its seats: list k is the own entries of seat k, and each entry is of one of them
pub record IsMerged (history : List EntryData) (lists : List (List EntryData)) : Type 0 where
  pub each : (seat : ℕ) → seat < length lists → own seat history ≡ slice_index_or lists seat []
  pub no_others : All (λ entry. entry.seat < length lists) history
