-- A name is sought place by place.
use Rattle.std.proofs.Common.{◌≡◌, ℕ, suc, ◌+◌, ◌<◌, List, [], length, get_or, drop, refl, ap, drop-cons, arith, Some, None, ◌≤◌}
use Rattle.std.proofs.lemmas.List.{drop_all}
use Rattle.std.specs.Prelude.{if◌then◌else◌}
use Rattle.std.specs.Str.{bytes_eq}
use Rattle.table_core.specs.Rows.{Fields}
use Rattle.rating.specs.Columns.{place_from}

-- from a place on, by the field there and those behind it
pub next_place : (fields : Fields) (name : List ℕ) (place : ℕ) → place < length fields
    → place_from (drop place fields) name place ≡ (if bytes_eq (get_or fields place []) name then Some place else place_from (drop (place + 1) fields) name (place + 1))
unfolding place_from
next_place fields name place within =
    let next : suc place ≡ place + 1 = omega arith in
    rw (drop-cons fields place [] within)
    (ap (λ k. if bytes_eq (get_or fields place []) name then Some place else place_from (drop k fields) name (place + 1)) next)

-- none is left behind the last
pub no_place : (fields : Fields) (name : List ℕ) (place : ℕ) → length fields ≤ place → place_from (drop place fields) name place ≡ None
unfolding place_from
no_place fields name place past = rw (drop_all place fields past) refl
