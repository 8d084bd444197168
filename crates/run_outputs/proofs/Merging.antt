-- What is sorted by a number.
use Rattle.std.proofs.Common.{◌≡◌, ◌==◌, ◌∙◌, ℕ, List, [], ◌∷◌, length, refl, sym}
use Rattle.std.proofs.lemmas.List.Elements.{filter_agree}
use Rattle.std.specs.List.{filter}
use Rattle.std.specs.List.Sorted.{IsStableByKey, ties}
use Rattle.std.specs.Ordering.{is_lt, nat_cmp}
use Rattle.std.proofs.lemmas.List.{nil_from_length}
use Rattle.book_texts.proofs.CallLemmas.{is_tie}

module _ {X : Type 0} (number : X → ℕ) (with_number : X → ℕ → X) (has_number : (x : X) (n : ℕ) → number (with_number x n) ≡ n) where
  -- a stable sort leaves those of each number as they were
  pub stays_in_order : (listed sorted : List X) → length sorted ≡ length listed → IsStableByKey number nat_cmp listed sorted
      → (n : ℕ) → filter (λ x. number x == n) sorted ≡ filter (λ x. number x == n) listed
  stays_in_order [] sorted as_many stable n = rw (nil_from_length sorted as_many) refl
  stays_in_order (first ∷ listed) sorted as_many stable n =
      let one : X = with_number first n in
      let its : number one ≡ n = has_number first n in
      let as_ties : (xs : List X) → filter (λ x. number x == n) xs ≡ filter (ties (λ x y. is_lt (nat_cmp (number x) (number y))) one) xs
      = filter_agree _ _ (λ x. rw its (is_tie n (number x))) in
      as_ties sorted ∙ stable one ∙ sym (as_ties (first ∷ listed))
