-- The place of an account in the ascending order.
use Rattle.std.proofs.Common.{◌≡◌, ◌≤◌, ◌<◌, ℕ, zero, suc, Bool, true, false, Option, Some, List, [], ◌∷◌, length, None, refl, arith, inl, inr}
use Rattle.std.specs.Prelude.{◌==◌, if◌then◌else◌, nat_lt, position}
use Rattle.std.specs.List.{position_or_len}
use Rattle.std.specs.List.{HoldsAt}
use Rattle.std.specs.List.Sorted.{IsNonDecreasingBy, IsPartitionPoint, IsStrictlySortedBy}
use Rattle.std.specs.Map.{keys_of}
use Rattle.std.specs.Ordering.{nat_cmp, ordering_index}
use Rattle.std.specs.declared.cmp.Ordering.TheVariants.{Less, Equal, Greater}
use Rattle.std.proofs.Math.ListN.{get_or, get_or-map}
use Rattle.std.proofs.lemmas.Bool.{cases_lt}
use Rattle.std.proofs.lemmas.Bool.Decides.{nat_tests}
use Rattle.std.proofs.lemmas.List.{length-map}
use Rattle.std.proofs.lemmas.List.Sums.{position_or_len_is}
use Rattle.std.proofs.lemmas.Map.Keys.{below_from_sorted, non_decreasing_from_sorted}
use Rattle.std.proofs.lemmas.Map.Lookups.{exact_unsigned}
use Rattle.run_values.specs.Openings.{no_credit}
use Rattle.run_values.specs.Setups.{opening_of}
use Rattle.run_values.specs.declared.directory.OpeningCredit.{OpeningCredit}

pub found_at : (accounts : List (ℕ × OpeningCredit)) (account place : ℕ) → HoldsAt (λ entry. nat_cmp entry.0 account ≡ Equal) accounts place → HoldsAt (λ entry. entry.0 ≡ account) accounts place
found_at accounts account place equal d = exact_unsigned _ account (equal d)

not_named : (accounts : List (ℕ × OpeningCredit)) (account : ℕ) → ((k : ℕ) (d : ℕ × OpeningCredit) → k < length accounts → ((get_or accounts k d).0 == account) ≡ false) → opening_of account accounts ≡ None
not_named [] account differs = refl
not_named (first ∷ accounts) account differs =
    rw (differs 0 first (omega arith)) (not_named accounts account (λ k d within. differs (suc k) d (omega (arith, within))))

unnamed_first : (is : Bool) (opening : OpeningCredit) (rest : Option OpeningCredit) → (if is then Some opening else rest) ≡ None → is ≡ false
unnamed_first true opening rest none = cc
unnamed_first false opening rest none = refl

unnamed_rest : (is : Bool) (opening : OpeningCredit) (rest : Option OpeningCredit) → (if is then Some opening else rest) ≡ None → rest ≡ None
unnamed_rest true opening rest none = cc
unnamed_rest false opening rest none = none

rises : (s t n : ℕ) → s ≤ t → ordering_index (nat_cmp s n) ≤ ordering_index (nat_cmp t n)
rises s t n le = grind (arith, nat_tests, le)

less_differs : (s n : ℕ) → nat_cmp s n ≡ Less → (s == n) ≡ false
less_differs s n is = grind (arith, nat_tests, is)

greater_differs : (s n : ℕ) → nat_cmp s n ≡ Greater → (s == n) ≡ false
greater_differs s n is = grind (arith, nat_tests, is)

differs_below : (s n : ℕ) → s < n → (s == n) ≡ false
differs_below s n less = grind (arith, nat_tests, less)

is_itself : (n : ℕ) → (n == n) ≡ true
is_itself n = grind (arith, nat_tests)

is_below : (s n : ℕ) → s < n → nat_lt s n ≡ true
is_below s n less = grind (arith, nat_tests, less)

not_below : (n : ℕ) → nat_lt n n ≡ false
not_below n = grind (arith, nat_tests)

-- where a look-up finds nothing, each number differs
unnamed : (accounts : List (ℕ × OpeningCredit)) (account : ℕ) → opening_of account accounts ≡ None → (k : ℕ) → k < length accounts → ((get_or accounts k (0, no_credit)).0 == account) ≡ false
unnamed [] account none k within = absurd (omega (arith, within))
unnamed (first ∷ accounts) account none zero within = unnamed_first (first.0 == account) first.1 (opening_of account accounts) none
unnamed (first ∷ accounts) account none (suc k) within =
    unnamed accounts account (unnamed_rest (first.0 == account) first.1 (opening_of account accounts) none) k (omega (arith, within))

-- the numbers of accounts in ascending order don't fall
pub never_fall : (accounts : List (ℕ × OpeningCredit)) → IsStrictlySortedBy nat_cmp (keys_of accounts) → IsNonDecreasingBy (λ entry. entry.0) accounts
never_fall accounts sorted a b d le within =
    let numbers = non_decreasing_from_sorted (keys_of accounts) sorted a b d.0 le (rw (length-map accounts (λ (entry : ℕ × OpeningCredit). entry.0)) within) in
    rw (get_or-map (λ (entry : ℕ × OpeningCredit). entry.0) accounts a d, get_or-map (λ (entry : ℕ × OpeningCredit). entry.0) accounts b d) at numbers

-- an account is first where its number is found, since the numbers rise
pub first_at : (accounts : List (ℕ × OpeningCredit)) (account place : ℕ) → IsStrictlySortedBy nat_cmp (keys_of accounts) → place < length accounts → HoldsAt (λ entry. entry.0 ≡ account) accounts place
    → position (λ (other : ℕ × OpeningCredit). other.0 == account) accounts ≡ Some place
first_at accounts account place sorted within found =
    let differs = λ (k : ℕ) (before : k < place).
    let rising = below_from_sorted (keys_of accounts) k place 0 sorted before (rw (length-map accounts (λ (entry : ℕ × OpeningCredit). entry.0)) within) in
    let lower = rw (get_or-map (λ (entry : ℕ × OpeningCredit). entry.0) accounts k (0, no_credit), get_or-map (λ (entry : ℕ × OpeningCredit). entry.0) accounts place (0, no_credit), found (0, no_credit)) at rising in
    differs_below (get_or accounts k (0, no_credit)).0 account lower in
    let at : position_or_len (λ (other : ℕ × OpeningCredit). other.0 == account) accounts ≡ place =
    position_or_len_is (λ (other : ℕ × OpeningCredit). other.0 == account) accounts place (0, no_credit) (omega (arith, within)) differs (λ _. rw (found (0, no_credit)) (is_itself account)) in
    rw (at, is_below place (length accounts) within) refl

-- where no account has a number, it has no place
pub nowhere : (accounts : List (ℕ × OpeningCredit)) (account : ℕ) → opening_of account accounts ≡ None → position (λ (other : ℕ × OpeningCredit). other.0 == account) accounts ≡ None
nowhere accounts account none =
    let at : position_or_len (λ (other : ℕ × OpeningCredit). other.0 == account) accounts ≡ length accounts =
    position_or_len_is (λ (other : ℕ × OpeningCredit). other.0 == account) accounts (length accounts) (0, no_credit) (omega arith) (unnamed accounts account none) (λ past. absurd (omega (arith, past))) in
    rw (at, not_below (length accounts)) refl

-- where the search finds no account, there is none
pub missing_from : (accounts : List (ℕ × OpeningCredit)) (account place : ℕ) → IsNonDecreasingBy (λ entry. entry.0) accounts
    → (IsNonDecreasingBy (λ (entry : ℕ × OpeningCredit). ordering_index (nat_cmp entry.0 account)) accounts → IsPartitionPoint (λ entry. nat_cmp entry.0 account ≡ Less) (λ entry. nat_cmp entry.0 account ≡ Greater) accounts place)
    → opening_of account accounts ≡ None
missing_from accounts account place ordered parts =
    let part = parts (λ a b d le within. rises _ _ account (ordered a b d le within)) in
    not_named accounts account (λ k d within. elim (cases_lt k place) [
      | inl before ↦ less_differs _ account (part.0 k d (omega arith) before)
      | inr from ↦ greater_differs _ account (part.1 k d from within)
    ])
