-- The moment that is put down first is the first at which a timer is due.
use Rattle.std.proofs.Common.{◌≡◌, ◌<◌, ◌≤◌, ℕ, true, false, Some, None, List, [], ◌∷◌, inl, inr, length, refl, arith, subst}
use Rattle.std.proofs.lemmas.Bool.{cases_lt}
use Rattle.std.proofs.lemmas.Bool.Decides.{nat_tests}
use Rattle.std.specs.BTreeMap.{is_at}
use Rattle.std.specs.BTreeSet.{BTreeSet, contains, IsLowerBound}
use Rattle.std.specs.List.{list_any}
use Rattle.std.specs.Ordering.{is_gt}
use Rattle.ssf_core.specs.Calls.{View}
use Rattle.script_player.specs.Dues.{AreDues, IsFirstDue, pair_cmp}

none_held : (keys : List (ℕ × ℕ)) (dues : BTreeSet (ℕ × ℕ)) → dues.keys ≡ keys → length keys ≤ 0 → (key : ℕ × ℕ) → contains pair_cmp dues key ≡ true → ⊥
none_held [] dues is none key has =
    let P : List (ℕ × ℕ) → Type 0 = λ ks. list_any (is_at (pair_cmp key)) ks ≡ true in
    let nowhere : false ≡ true = subst P is has in
    absurd (cc)
none_held (first ∷ keys) dues is none key has = absurd (omega arith)

pub none_first : (ssfs : List (ℕ × View)) (dues : BTreeSet (ℕ × ℕ)) → AreDues ssfs dues → (0 < length dues.keys → false ≡ true) → IsFirstDue ssfs None
none_first ssfs dues are none = λ call at timer.
    elim (cases_lt 0 (length dues.keys)) [
      | inl some ↦ absurd (cc (none some))
      | inr none ↦ none_held dues.keys dues refl none (at, call) (are.each at call timer)
    ]

not_before : (at call other by : ℕ) → is_gt (pair_cmp (at, call) (other, by)) ≡ false → at ≤ other
not_before at call other by not = grind (arith, nat_tests)

pub first_is : (ssfs : List (ℕ × View)) (dues : BTreeSet (ℕ × ℕ)) (at call : ℕ) → AreDues ssfs dues → contains pair_cmp dues (at, call) ≡ true → IsLowerBound pair_cmp dues (at, call) → IsFirstDue ssfs (Some at)
first_is ssfs dues at call are has least = ((call, are.held at call has), λ by other timer. not_before at call other by (least (other, by) (are.each other by timer)))
