-- What shows that an account refused a worker.
use Rattle.std.specs.Prelude.{◌≡◌, ◌<◌, ℕ, List, length, slice_index_or}
use Rattle.account_core.specs.Entries.{EntryData}
use Rattle.account_core.specs.Refusals.{IsRefusedAt, Knowing, Refusal}
use Rattle.runs_core.specs.Talks.{Showing}

-- a refusal that the seat at a place knows of
pub record WasAt {T : Type 0} (Was : T → Knowing) (seats : List T) (place : ℕ) (mine : List EntryData) (refusal : Refusal) : Type 0 where
  pub seat : T
  pub within : place < length seats
  pub seat_is : seat ≡ slice_index_or seats place seat
  pub was : Was seat mine refusal

-- what shows a refusal at a place: an account that the seat there knows has refused the ask with just that fault
abbrev pub RefusesAt : {T : Type 0} → (T → Knowing) → List T → ℕ → Showing
RefusesAt Was seats place = IsRefusedAt (WasAt Was seats place)
