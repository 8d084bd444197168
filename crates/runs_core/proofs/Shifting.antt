-- The first of what is left is done, and is last in what is done.
use Rattle.std.proofs.Common.{◌≡◌, List, [], ◌∷◌, ◌++◌, map, sym, ◌∙◌}
use Rattle.std.proofs.lemmas.List.{append-nil}

pub none_left : {X Y Z : Type 0} (f : X → Z) (g : Y → Z) (done : List X) (rest : List Y) (all : List Z) → rest ≡ [] → map f done ++ map g rest ≡ all → map f done ≡ all
none_left f g done [] all none before = sym (append-nil (map f done)) ∙ before
none_left f g done (y ∷ rest) all none before = absurd (cc)
