-- Lists by rising number.
use Rattle.std.specs.Prelude.{◌≢◌, ◌≡◌, ◌<◌, ℕ, List, length, slice_index_or}
use Rattle.std.specs.List.{HoldsAt}

module _ {V : Type 0} where
  -- each number is above those before it
  abbrev pub AreRising : List (ℕ × V) → Type 0
  AreRising list = (i j : ℕ) (d : ℕ × V) → i < j → j < length list → (slice_index_or list i d).0 < (slice_index_or list j d).0

  -- an item is that of a lower number
  abbrev pub IsBelow : ℕ → ℕ × V → Type 0
  IsBelow number item = item.0 < number

  -- an item of another number
  abbrev pub IsOther : ℕ → ℕ × V → Type 0
  IsOther number item = item.0 ≢ number

  -- the item at a place is that of the number
  abbrev pub StandsAt : List (ℕ × V) → ℕ → ℕ → Type 0
  StandsAt list number place = (place < length list) × HoldsAt (λ item. item.0 ≡ number) list place
