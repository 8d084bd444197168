-- All of a map by number.
use Rattle.std.specs.Prelude.{ℕ, List, ⊤}
use Rattle.account_core.specs.Rising.{AreRising}
use Rattle.account_core.specs.declared.rising_map.Listing.{Listing}
use Rattle.account_core.specs.declared.rising_map.Listing.TheVariants.{Rising, Mixed}

module _ {V : Type 0} where
  -- each number with its value, by rising number
  abbrev pub listed : Listing V → List (ℕ × V)
  listed (Rising list) = list.now
  listed (Mixed map) = map.now.entries

  -- the numbers of a list rise; a map keeps its order itself
  abbrev pub IsInOrder : Listing V → Type 0
  IsInOrder (Rising list) = AreRising list.now
  IsInOrder (Mixed map) = ⊤
