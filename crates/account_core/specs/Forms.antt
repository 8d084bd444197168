-- What a map by number is kept as.
use Rattle.std.specs.Prelude.{ℕ, List, ⊤}
use Rattle.account_core.specs.Rising.{AreRising}
use Rattle.account_core.specs.declared.rising_map.Form.{Form}
use Rattle.account_core.specs.declared.rising_map.Form.TheVariants.{Rising, Mixed}

module _ {V : Type 0} where
  -- each number with its value, by rising number
  abbrev pub entries_of : Form V → List (ℕ × V)
  entries_of (Rising list) = list.items
  entries_of (Mixed map) = map.entries

  -- the numbers of a list rise; a map keeps its order itself
  abbrev pub IsOrdered : Form V → Type 0
  IsOrdered (Rising list) = AreRising list.items
  IsOrdered (Mixed map) = ⊤
