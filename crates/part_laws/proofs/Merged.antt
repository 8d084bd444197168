-- Lists that rise by a number, and the lists of all parts one after another.
use Rattle.std.proofs.Common.{◌≡◌, ◌==◌, ◌<◌, ◌≤◌, ◌+◌, inl, inr, ◌++◌, ◌∙◌, ℕ, zero, suc, Bool, true, false, List, [], ◌∷◌, length, map, refl, sym, ap, subst, arith, append-nil}
use Rattle.std.specs.List.{filter, flat_map}
use Rattle.std.specs.Prelude.{if◌then◌else◌, slice_index_or}
use Rattle.std.proofs.lemmas.Bool.{cases_lt}
use Rattle.std.proofs.lemmas.Bool.Decides.{nat_tests}
use Rattle.std.proofs.lemmas.List.{map-append}
use Rattle.std.proofs.lemmas.List.Elements.{filter-append}
use Rattle.part_laws.proofs.InOrder.{ComesInOrder}
use Rattle.part_laws.proofs.Joined.{no_piece, piece}

-- ---- lists that rise by a number are known by what they have of each

module _ {X : Type 0} (key : X → ℕ) where
  abbrev pub at_number : ℕ → List X → List X
  at_number number xs = piece key number xs

  own_first : (x : X) (xs : List X) → at_number (key x) (x ∷ xs) ≡ x ∷ at_number (key x) xs
  own_first x xs = let here : (key x == key x) ≡ true = grind (arith, nat_tests) in rw here refl

  none_below : (number : ℕ) (x : X) (xs : List X) → number < key x → ComesInOrder key (key x) xs → at_number number (x ∷ xs) ≡ []
  none_below number x xs below from =
      let here : (key x == number) ≡ false = grind (arith, nat_tests, below) in rw here (no_piece key number (key x) xs below from)

  abbrev AreSame : List X → List X → Type 0
  AreSame xs ys = (number : ℕ) → at_number number xs ≡ at_number number ys

  not_below : (x y : X) (xs ys : List X) → ComesInOrder key (key y) ys → at_number (key x) (x ∷ xs) ≡ at_number (key x) (y ∷ ys) → key x < key y → ⊥
  not_below x y xs ys from same below =
      let clash : x ∷ at_number (key x) xs ≡ [] = sym (own_first x xs) ∙ same ∙ none_below (key x) y ys below from in cc clash

  first_same : (x y : X) (xs ys : List X) → key x ≡ key y → at_number (key x) (x ∷ xs) ≡ at_number (key x) (y ∷ ys) → x ≡ y
  first_same x y xs ys number same =
      let there : at_number (key x) (y ∷ ys) ≡ y ∷ at_number (key x) ys = subst (λ n. at_number n (y ∷ ys) ≡ y ∷ at_number n ys) (sym number) (own_first y ys) in
      let both : x ∷ at_number (key x) xs ≡ y ∷ at_number (key x) ys = sym (own_first x xs) ∙ same ∙ there in cc both

  rest_same : (x : X) (xs ys : List X) → AreSame (x ∷ xs) (x ∷ ys) → (number : ℕ) → at_number number xs ≡ at_number number ys
  rest_same x xs ys same number = by_here (key x == number) refl (same number)
    where
      by_here : (b : Bool) → (key x == number) ≡ b → (if b then x ∷ at_number number xs else at_number number xs) ≡ (if b then x ∷ at_number number ys else at_number number ys)
          → at_number number xs ≡ at_number number ys
      by_here true here both = cc both
      by_here false here both = both

  pub one_order : (low high : ℕ) (xs ys : List X) → ComesInOrder key low xs → ComesInOrder key high ys → ((number : ℕ) → at_number number xs ≡ at_number number ys) → xs ≡ ys
  one_order low high [] [] rises rises_too same = refl
  one_order low high [] (y ∷ ys) rises rises_too same = let clash : [] ≡ y ∷ at_number (key y) ys = same (key y) ∙ own_first y ys in absurd (cc clash)
  one_order low high (x ∷ xs) [] rises rises_too same = let clash : x ∷ at_number (key x) xs ≡ [] = sym (own_first x xs) ∙ same (key x) in absurd (cc clash)
  one_order low high (x ∷ xs) (y ∷ ys) rises rises_too same = elim (cases_lt (key x) (key y)) [
    | inl below ↦ absurd (not_below x y xs ys rises_too.1 (same (key x)) below)
    | inr above ↦ elim (cases_lt (key y) (key x)) [
      | inl below ↦ absurd (not_below y x ys xs rises.1 (sym (same (key y))) below)
      | inr up ↦
          (let number : key x ≡ key y = omega (arith, above, up) in
          let first = first_same x y xs ys number (same (key x)) in
          let all : AreSame (x ∷ xs) (x ∷ ys) = subst (λ z. AreSame (x ∷ xs) (z ∷ ys)) (sym first) same in
          ap (λ z. z ∷ xs) first ∙ ap (λ l. y ∷ l) (one_order (key x) (key y) xs ys rises.1 rises_too.1 (rest_same x xs ys all)))
    ]
  ]

  -- ---- the pieces of all parts, where each number has a home

  module _ {Y : Type 0} (shown : Y → X) (home : ℕ → ℕ) (all : List X) where
    -- what a part has of all
    abbrev pub at_home : ℕ → List X
    at_home part = filter (λ x. home (key x) == part) all

    home_kept : (number part : ℕ) (xs : List X) → at_number number (filter (λ x. home (key x) == part) xs) ≡ (if home number == part then at_number number xs else [])
    home_kept number part [] = by_home (home number == part)
      where
        by_home : (b : Bool) → at_number number [] ≡ (if b then at_number number [] else [])
        by_home true = refl
        by_home false = refl
    home_kept number part (x ∷ xs) = by_both (key x == number) refl (home (key x) == part) refl (home number == part) refl (home_kept number part xs)
      where
        homes : (b c : Bool) → (key x == number) ≡ true → (home (key x) == part) ≡ b → (home number == part) ≡ c → b ≡ c
        homes b c here its mine = let same : key x ≡ number = grind (arith, nat_tests, here) in sym its ∙ ap (λ n. home n == part) same ∙ mine

        by_both : (b : Bool) → (key x == number) ≡ b → (c : Bool) → (home (key x) == part) ≡ c → (d : Bool) → (home number == part) ≡ d
            → at_number number (filter (λ x. home (key x) == part) xs) ≡ (if d then at_number number xs else [])
            → at_number number (if c then x ∷ filter (λ x. home (key x) == part) xs else filter (λ x. home (key x) == part) xs)
            ≡ (if d then (if b then x ∷ at_number number xs else at_number number xs) else [])
        by_both true b true c true d rest = rw b (ap (λ l. x ∷ l) rest)
        by_both true b true c false d rest = absurd (let clash = homes true false b c d in cc clash)
        by_both true b false c true d rest = absurd (let clash = homes false true b c d in cc clash)
        by_both true b false c false d rest = rest
        by_both false b true c true d rest = rw b rest
        by_both false b true c false d rest = rw b rest
        by_both false b false c true d rest = rest
        by_both false b false c false d rest = rest

    abbrev AreAt : ℕ → List (List Y) → Type 0
    AreAt from parts = (i : ℕ) (d : List Y) → i < length parts → map shown (slice_index_or parts i d) ≡ at_home (i + from)

    abbrev joined : List (List Y) → List X
    joined parts = map shown (flat_map (λ (kept : List Y). kept) parts)

    later_at : (from : ℕ) (kept : List Y) (parts : List (List Y)) → AreAt from (kept ∷ parts) → AreAt (suc from) parts
    later_at from kept parts each i d within =
        let next : suc i + from ≡ i + suc from = omega arith in each (suc i) d (omega (arith, within)) ∙ ap at_home next

    split_at : (number from : ℕ) (kept : List Y) (parts : List (List Y)) → AreAt from (kept ∷ parts)
        → at_number number (joined (kept ∷ parts)) ≡ (if home number == from then at_number number all else []) ++ at_number number (joined parts)
    split_at number from kept parts each =
        let none : 0 + from ≡ from = omega arith in
        let first : map shown kept ≡ at_home from = each zero kept (omega arith) ∙ ap at_home none in
        ap (at_number number) (map-append shown kept (flat_map (λ (kept : List Y). kept) parts)) ∙ filter-append (λ (x : X). key x == number) (map shown kept) (joined parts)
        ∙ ap (λ l. at_number number l ++ at_number number (joined parts)) first ∙ ap (λ l. l ++ at_number number (joined parts)) (home_kept number from all)

    past_all : (number from : ℕ) (parts : List (List Y)) → home number < from → AreAt from parts → at_number number (joined parts) ≡ []
    past_all number from [] past each = refl
    past_all number from (kept ∷ parts) past each =
        let here : (home number == from) ≡ false = grind (arith, nat_tests, past) in
        split_at number from kept parts each ∙ ap (λ (b : Bool). (if b then at_number number all else []) ++ at_number number (joined parts)) here
        ∙ past_all number (suc from) parts (omega (arith, past)) (later_at from kept parts each)

    pub all_joined : (number from : ℕ) (parts : List (List Y)) → from ≤ home number → home number < length parts + from → AreAt from parts
        → at_number number (joined parts) ≡ at_number number all
    all_joined number from [] low high each = absurd (omega (arith, low, high))
    all_joined number from (kept ∷ parts) low high each =
        by_here (home number == from) refl (λ above. all_joined number (suc from) parts above (omega (arith, high)) (later_at from kept parts each))
      where
        by_here : (b : Bool) → (home number == from) ≡ b → (suc from ≤ home number → at_number number (joined parts) ≡ at_number number all)
            → at_number number (joined (kept ∷ parts)) ≡ at_number number all
        by_here true here rest =
            let same : home number ≡ from = grind (arith, nat_tests, here) in
            split_at number from kept parts each ∙ ap (λ (b : Bool). (if b then at_number number all else []) ++ at_number number (joined parts)) here
            ∙ ap (λ l. at_number number all ++ l) (past_all number (suc from) parts (omega (arith, same)) (later_at from kept parts each)) ∙ append-nil (at_number number all)
        by_here false here rest =
            let above : suc from ≤ home number = grind (arith, nat_tests, here, low) in
            split_at number from kept parts each ∙ ap (λ (b : Bool). (if b then at_number number all else []) ++ at_number number (joined parts)) here ∙ rest above
