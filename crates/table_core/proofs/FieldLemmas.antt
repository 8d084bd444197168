-- The field of a row at a place, and no bytes behind its last one.
use Rattle.std.proofs.Common.{◌≡◌, ◌∙◌, ℕ, zero, suc, List, [], ◌∷◌, Option, Some, None, get_or, ap, refl}
use Rattle.std.specs.Prelude.{option_map, unwrap_or}
use Rattle.csv.specs.Records.{field_at}

at_place : (fields : List (List ℕ)) (place : ℕ) → unwrap_or (field_at fields place) [] ≡ get_or fields place []
unfolding field_at
at_place [] place = refl
at_place (field ∷ fields) zero = refl
at_place (field ∷ fields) (suc place) = at_place fields place

mapped : {A : Type 0} (now : A → List ℕ) (found : Option A) (none : A) → now none ≡ [] → now (unwrap_or found none) ≡ unwrap_or (option_map now found) []
mapped now None none empty = empty
mapped now (Some x) none empty = refl

pub found_or_none : {A : Type 0} (now : A → List ℕ) (found : Option A) (none : A) (fields : List (List ℕ)) (place : ℕ)
    → now none ≡ [] → option_map now found ≡ field_at fields place → now (unwrap_or found none) ≡ get_or fields place []
found_or_none now found none fields place empty is =
    mapped now found none empty ∙ (ap (λ field. unwrap_or field []) is ∙ at_place fields place)
