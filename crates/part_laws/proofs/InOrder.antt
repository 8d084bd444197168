-- Lists that come in the order of a number.
use Rattle.std.proofs.Common.{◌≡◌, ◌<◌, ◌≤◌, ◌++◌, ℕ, zero, suc, Bool, true, false, List, [], ◌∷◌, All, cond, length, arith}
use Rattle.std.proofs.lemmas.List.Elements.{All-cons, All-head, All-nil, All-tail}
use Rattle.std.specs.List.{filter}
use Rattle.std.specs.List.Sorted.{IsNonDecreasingBy}
use Rattle.std.specs.Prelude.{slice_index_or}
use Rattle.ssf_core.specs.declared.deliveries.Delivery.{Delivery}

abbrev pub of_delivery : Delivery → ℕ
of_delivery delivery = delivery.at

-- ---- what comes in order

module _ {X : Type 0} (at : X → ℕ) where
  abbrev pub ComesInOrder : ℕ → List X → Type 0
  ComesInOrder from [] = Unit {0}
  ComesInOrder from (x ∷ xs) = (from ≤ at x) × ComesInOrder (at x) xs

  -- the first one, where there is one, isn't before a moment
  abbrev pub StartsFrom : ℕ → List X → Type 0
  StartsFrom from [] = Unit {0}
  StartsFrom from (x ∷ xs) = from ≤ at x

  pub order_from : (was from : ℕ) (xs : List X) → ComesInOrder was xs → StartsFrom from xs → ComesInOrder from xs
  order_from was from [] order starts = tt
  order_from was from (x ∷ xs) order starts = (starts, order.1)

  pub lower : (from was : ℕ) (xs : List X) → from ≤ was → ComesInOrder was xs → ComesInOrder from xs
  lower from was [] before order = tt
  lower from was (x ∷ xs) before order = let first : was ≤ at x = order.0 in (omega (arith, before, first), order.1)

  pub lower_all : (near far : ℕ) (xs : List X) → near ≤ far → All (λ x. far ≤ at x) xs → All (λ x. near ≤ at x) xs
  lower_all near far [] order all = All-nil (λ (x : X). near ≤ at x)
  lower_all near far (x ∷ xs) order all =
      let P : X → Type 0 = λ y. far ≤ at y in
      let first : far ≤ at x = All-head P x xs all in
      All-cons (λ (y : X). near ≤ at y) x xs (omega (arith, order, first)) (lower_all near far xs order (All-tail P x xs all))

  pub raise_all : (near far : ℕ) (xs : List X) → near ≤ far → All (λ x. at x ≤ near) xs → All (λ x. at x ≤ far) xs
  raise_all near far [] order all = All-nil (λ (x : X). at x ≤ far)
  raise_all near far (x ∷ xs) order all =
      let P : X → Type 0 = λ y. at y ≤ near in
      let first : at x ≤ near = All-head P x xs all in
      All-cons (λ (y : X). at y ≤ far) x xs (omega (arith, order, first)) (raise_all near far xs order (All-tail P x xs all))

  pub all_from : (from : ℕ) (xs : List X) → ComesInOrder from xs → All (λ x. from ≤ at x) xs
  all_from from [] order = All-nil (λ (x : X). from ≤ at x)
  all_from from (x ∷ xs) order = All-cons (λ (y : X). from ≤ at y) x xs order.0 (all_from from xs (lower from (at x) xs order.0 order.1))

  pub starts_of : (from : ℕ) (xs : List X) → All (λ x. from ≤ at x) xs → StartsFrom from xs
  starts_of from [] all = tt
  starts_of from (x ∷ xs) all = All-head (λ (y : X). from ≤ at y) x xs all

  pub rest_in_order : (was from : ℕ) (front left : List X) → ComesInOrder was (front ++ left) → StartsFrom from left → ComesInOrder from left
  rest_in_order was from [] left order starts = order_from was from left order starts
  rest_in_order was from (x ∷ front) left order starts = rest_in_order (at x) from front left order.1 starts

  -- some of what comes in order comes in order
  pub kept_order : (own : X → Bool) (from : ℕ) (xs : List X) → ComesInOrder from xs → ComesInOrder from (filter own xs)
  kept_order own from [] order = tt
  kept_order own from (x ∷ xs) order = by_own (λ was order. kept_order own was xs order) (own x)
    where
      by_own : ((was : ℕ) → ComesInOrder was xs → ComesInOrder was (filter own xs)) → (b : Bool) → ComesInOrder from (cond b (x ∷ filter own xs) (filter own xs))
      by_own later true = (order.0, later (at x) order.1)
      by_own later false = later from (lower from (at x) xs order.0 order.1)

  -- behind what comes by a moment that of the moment comes in order
  at_once : (from until : ℕ) (added : List X) → from ≤ until → All (λ x. at x ≡ until) added → ComesInOrder from added
  at_once from until [] low all = tt
  at_once from until (x ∷ added) low all =
      let A : X → Type 0 = λ y. at y ≡ until in
      let here : at x ≡ until = All-head A x added all in
      (omega (arith, low, here), at_once (at x) until added (omega (arith, here)) (All-tail A x added all))

  pub order_more : (from until : ℕ) (xs added : List X) → from ≤ until → ComesInOrder from xs → All (λ x. at x ≤ until) xs → All (λ x. at x ≡ until) added → ComesInOrder from (xs ++ added)
  order_more from until [] added low order within all = at_once from until added low all
  order_more from until (x ∷ xs) added low order within all =
      let W : X → Type 0 = λ y. at y ≤ until in (order.0, order_more (at x) until xs added (All-head W x xs within) order.1 (All-tail W x xs within) all)

  order_of : (low : ℕ) (xs : List X) → ((d : X) → zero < length xs → low ≤ at (slice_index_or xs zero d)) → IsNonDecreasingBy at xs → ComesInOrder low xs
  order_of low [] first sorted = tt
  order_of low (x ∷ xs) first sorted = (
    first x (omega arith),
    order_of (at x) xs (λ d within. sorted zero (suc zero) d (omega arith) (omega (arith, within))) (λ i j d below within. sorted (suc i) (suc j) d (omega (arith, below)) (omega (arith, within))),
  )

  -- what never falls comes in order
  pub rise : (xs : List X) → IsNonDecreasingBy at xs → ComesInOrder 0 xs
  rise xs sorted = order_of 0 xs (λ d within. omega arith) sorted
