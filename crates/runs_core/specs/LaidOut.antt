-- Items are laid out on piles, one on each.
use Rattle.std.specs.Prelude.{List, [], ◌∷◌, ◌++◌}

-- the first item onto the first pile, the second onto the second, and so on
abbrev pub laid_out : {X : Type 0} → List (List X) → List X → List (List X)
laid_out [] items = []
laid_out (pile ∷ piles) [] = pile ∷ piles
laid_out (pile ∷ piles) (item ∷ items) = (pile ++ item ∷ []) ∷ laid_out piles items
