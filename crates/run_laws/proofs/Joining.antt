-- The joined books of all parts are those of all accounts, in order: the parts of accounts that rise don't fall.
use Rattle.std.proofs.Common.{◌≡◌, ◌==◌, ◌<◌, ◌≤◌, ◌+◌, ◌∙◌, ℕ, suc, Bool, true, false, cond, List, [], ◌∷◌, ◌++◌, inl, inr, length, map, refl, sym, ap, arith, All, get_or}
use Rattle.std.specs.Prelude.{nat_le}
use Rattle.std.specs.List.{AllByRecursion, filter, flat_map}
use Rattle.std.specs.List.Sorted.{IsStrictlySortedBy}
use Rattle.std.specs.Ordering.{nat_cmp}
use Rattle.std.specs.declared.cmp.Ordering.TheVariants as order
use Rattle.std.proofs.lemmas.Bool.{cases_lt}
use Rattle.std.proofs.lemmas.Bool.Decides.{nat_tests}
use Rattle.std.proofs.lemmas.List.{map-append}
use Rattle.std.proofs.lemmas.List.Elements.{All-append, All-nil}
use Rattle.run_outputs.specs.Kept.{PartSaid, own_books}
use Rattle.run_outputs.specs.Parts.{part_of_account}
use Rattle.account_core.specs.Closed.{Closed}

-- ---- tests of numbers

is_le : (a b : ℕ) → a ≤ b → nat_le a b ≡ true
is_le a b order = grind (arith, nat_tests)

is_not_le : (a b : ℕ) → b < a → nat_le a b ≡ false
is_not_le a b order = grind (arith, nat_tests)

is_same : (a b : ℕ) → a ≤ b → b ≤ a → (a == b) ≡ true
is_same a b order other = grind (arith, nat_tests)

is_above : (a b : ℕ) → b < a → (a == b) ≡ false
is_above a b order = grind (arith, nat_tests)

is_below : (a b : ℕ) → a < b → (a == b) ≡ false
is_below a b order = grind (arith, nat_tests)

less_from : (a b : ℕ) → nat_cmp a b ≡ order.Less → a < b
less_from a b is = grind (arith, nat_tests)

-- ---- the part of an account

one_more : (first a b count more : ℕ) → a < b → count ≤ more → length (cond (nat_le first a) (first ∷ []) []) + count ≤ length (cond (nat_le first b) (first ∷ []) []) + more
one_more first a b count more order fewer =
    elim (cases_lt a first) [
      | inl early ↦ rw (is_not_le first a early) (omega (arith, fewer))
      | inr late ↦ rw (is_le first a late, is_le first b (omega (arith, order, late))) (omega (arith, fewer))
    ]

count_by : (p : ℕ → Bool) (first : ℕ) (rest : List ℕ) (passes : Bool) → p first ≡ passes → length (filter p (first ∷ rest)) ≡ length (cond (p first) (first ∷ []) []) + length (filter p rest)
count_by p first rest true is = rw is (let same : suc (length (filter p rest)) ≡ 1 + length (filter p rest) = omega arith in same)
count_by p first rest false is = rw is (let same : length (filter p rest) ≡ 0 + length (filter p rest) = omega arith in same)

count_of : (p : ℕ → Bool) (first : ℕ) (rest : List ℕ) → length (filter p (first ∷ rest)) ≡ length (cond (p first) (first ∷ []) []) + length (filter p rest)
count_of p first rest = count_by p first rest (p first) refl

-- it doesn't fall with the account
rises : (firsts : List ℕ) (a b : ℕ) → a < b → part_of_account firsts a ≤ part_of_account firsts b
rises [] a b order = omega arith
rises (first ∷ firsts) a b order =
    let here = one_more first a b (part_of_account firsts a) (part_of_account firsts b) order (rises firsts a b order) in
    let one = count_of (λ f. nat_le f a) first firsts in
    let other = count_of (λ f. nat_le f b) first firsts in
    omega (arith, here, one, other)

at_most_one : (first a : ℕ) → length (cond (nat_le first a) (first ∷ []) []) ≤ 1
at_most_one first a =
    elim (cases_lt a first) [
      | inl early ↦ rw (is_not_le first a early) (omega arith)
      | inr late ↦ rw (is_le first a late) (omega arith)
    ]

-- it is one of the parts
pub is_a_part : (firsts : List ℕ) (a : ℕ) → part_of_account firsts a ≤ length firsts
is_a_part [] a = omega arith
is_a_part (first ∷ firsts) a =
    let one = count_of (λ f. nat_le f a) first firsts in
    let few = at_most_one first a in
    let rest = is_a_part firsts a in
    omega (arith, one, few, rest)

-- ---- numbers by their parts, one part after another

module _ (part_of : ℕ → ℕ) (mono : (a b : ℕ) → a < b → part_of a ≤ part_of b) where
  abbrev own : ℕ → List ℕ → List ℕ
  own part = filter (λ a. part_of a == part)

  abbrev from : ℕ → List ℕ → List ℕ
  from part = filter (λ a. nat_le part (part_of a))

  -- none is of an earlier part than those before it
  none_earlier : (part a : ℕ) (rest : List ℕ) → part < part_of a → AllByRecursion (λ b. nat_cmp a b ≡ order.Less) rest → own part rest ≡ []
  none_earlier part a [] later above = refl
  none_earlier part a (b ∷ rest) later above =
      let order : part_of a ≤ part_of b = mono a b (less_from a b above.0) in
      let past : part < part_of b = omega (arith, later, order) in
      rw (is_above (part_of b) part past) (none_earlier part a rest later above.1)

  next : (part a : ℕ) (rest : List ℕ) → from part rest ≡ own part rest ++ from (suc part) rest → (part < part_of a → own part rest ≡ []) → from part (a ∷ rest) ≡ own part (a ∷ rest) ++ from (suc part) (a ∷ rest)
  next part a rest is none =
      elim (cases_lt (part_of a) part) [
        | inl before ↦ rw (is_not_le part (part_of a) before, is_below (part_of a) part before, is_not_le (suc part) (part_of a) (omega (arith, before))) is
        | inr reached ↦ elim (cases_lt part (part_of a)) [
          | inl past ↦ rw (is_le part (part_of a) reached, is_above (part_of a) part past, is_le (suc part) (part_of a) (omega (arith, past)), none past) (ap (λ l. a ∷ l) (rw (none past) at is))
          | inr here ↦ rw (is_le part (part_of a) reached, is_same (part_of a) part here reached, is_not_le (suc part) (part_of a) (omega (arith, here))) (ap (λ l. a ∷ l) is)
        ]
      ]

  -- those of a part, and then those of later parts
  split : (part : ℕ) (numbers : List ℕ) → IsStrictlySortedBy nat_cmp numbers → from part numbers ≡ own part numbers ++ from (suc part) numbers
  unfolding IsStrictlySortedBy
  split part [] sorted = refl
  split part (a ∷ rest) sorted = next part a rest (split part rest sorted.1) (λ past. none_earlier part a rest past sorted.0)

  none_from : (part : ℕ) (numbers : List ℕ) → ((a : ℕ) → part_of a < part) → from part numbers ≡ []
  none_from part [] few = refl
  none_from part (a ∷ rest) few = rw (is_not_le part (part_of a) (few a)) (none_from part rest few)

  all_from : (numbers : List ℕ) → from 0 numbers ≡ numbers
  all_from [] = refl
  all_from (a ∷ rest) = rw (is_le 0 (part_of a) (omega arith)) (ap (λ l. a ∷ l) (all_from rest))

  -- the books of parts from one on, whose accounts are these
  accounts_from : (numbers : List ℕ) (part : ℕ) (parts : List PartSaid) → IsStrictlySortedBy nat_cmp numbers → ((a : ℕ) → part_of a < part + length parts)
      → ((k : ℕ) (d : PartSaid) → k < length parts → map (λ (book : Closed). book.account) (get_or parts k d).books ≡ own (part + k) numbers)
      → map (λ (book : Closed). book.account) (flat_map (λ (p : PartSaid). p.books) parts) ≡ from part numbers
  accounts_from numbers part [] sorted few each = sym (none_from part numbers (λ a. let less = few a in omega (arith, less)))
  accounts_from numbers part (first ∷ parts) sorted few each =
      let here : map (λ (book : Closed). book.account) first.books ≡ own part numbers =
      each 0 first (omega arith) ∙ ap (λ p. own p numbers) (let same : part + 0 ≡ part = omega arith in same) in
      let rest : map (λ (book : Closed). book.account) (flat_map (λ (p : PartSaid). p.books) parts) ≡ from (suc part) numbers =
      accounts_from numbers (suc part) parts sorted (λ a. let less = few a in omega (arith, less))
      (λ k d within. each (suc k) d (omega (arith, within)) ∙ ap (λ p. own p numbers) (let same : part + suc k ≡ suc part + k = omega arith in same)) in
      map-append (λ (book : Closed). book.account) first.books (flat_map (λ (p : PartSaid). p.books) parts) ∙ rw (here, rest) (sym (split part numbers sorted))

-- the accounts of a part's own books
own_next : (p : ℕ → Bool) (book : Closed) (books : List Closed) (passes : Bool) → p book.account ≡ passes
    → map (λ (b : Closed). b.account) (filter (λ (b : Closed). p b.account) books) ≡ filter p (map (λ (b : Closed). b.account) books)
    → map (λ (b : Closed). b.account) (filter (λ (b : Closed). p b.account) (book ∷ books)) ≡ filter p (map (λ (b : Closed). b.account) (book ∷ books))
own_next p book books true is rest = rw is (ap (λ l. book.account ∷ l) rest)
own_next p book books false is rest = rw is rest

own_by : (p : ℕ → Bool) (books : List Closed) → map (λ (b : Closed). b.account) (filter (λ (b : Closed). p b.account) books) ≡ filter p (map (λ (b : Closed). b.account) books)
own_by p [] = refl
own_by p (book ∷ books) = own_next p book books (p book.account) refl (own_by p books)

pub own_accounts : (firsts : List ℕ) (part : ℕ) (books : List Closed) → map (λ (book : Closed). book.account) (own_books firsts part books)
    ≡ filter (λ a. part_of_account firsts a == part) (map (λ (book : Closed). book.account) books)
own_accounts firsts part books = own_by (λ a. part_of_account firsts a == part) books

-- the accounts of all parts, one part after another
pub all_accounts : (firsts numbers : List ℕ) (parts : List PartSaid) → IsStrictlySortedBy nat_cmp numbers → length parts ≡ 1 + length firsts
    → ((k : ℕ) (d : PartSaid) → k < length parts → map (λ (book : Closed). book.account) (get_or parts k d).books ≡ filter (λ a. part_of_account firsts a == k) numbers)
    → map (λ (book : Closed). book.account) (flat_map (λ (p : PartSaid). p.books) parts) ≡ numbers
all_accounts firsts numbers parts sorted all each =
    accounts_from (part_of_account firsts) (rises firsts) numbers 0 parts sorted (λ a. let few = is_a_part firsts a in omega (arith, few, all))
    (λ k d within. each k d within ∙ ap (λ p. filter (λ a. part_of_account firsts a == p) numbers) (let same : k ≡ 0 + k = omega arith in same))
    ∙ all_from (part_of_account firsts) (rises firsts) numbers

-- what holds of the books of each part holds of them all
pub all_parts : (P : Closed → Type 0) (parts : List PartSaid) → ((k : ℕ) (d : PartSaid) → k < length parts → All P (get_or parts k d).books) → All P (flat_map (λ (p : PartSaid). p.books) parts)
all_parts P [] each = All-nil P
all_parts P (first ∷ parts) each =
    All-append P first.books (flat_map (λ (p : PartSaid). p.books) parts) (each 0 first (omega arith)) (all_parts P parts (λ k d within. each (suc k) d (omega (arith, within))))
