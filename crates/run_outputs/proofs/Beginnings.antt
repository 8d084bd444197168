-- The accounts with which parts begin.
use Rattle.std.proofs.Common.{◌≡◌, ◌==◌, ◌<◌, ◌≤◌, ◌+◌, ◌-◌, ◌⊎◌, inl, inr, ℕ, zero, suc, Bool, true, false, List, [], ◌∷◌, ◌++◌, length, refl, sym, ap, subst, arith, All}
use Rattle.std.proofs.Math.ListN.{get_or}
use Rattle.std.proofs.lemmas.Bool.Decides.{nat_tests}
use Rattle.std.proofs.lemmas.List.{get_or-map, length-append, length-map}
use Rattle.std.proofs.lemmas.List.Elements.{All-append, All-cons, All-nil}
use Rattle.std.proofs.lemmas.Map.Keys.{below_from_sorted, non_decreasing_from_sorted}
use Rattle.std.specs.List.{AllByRecursion, AllWithin, filter}
use Rattle.std.specs.List.Sorted.{IsPartitionPoint, IsPartitionedBy, IsStrictlySortedBy}
use Rattle.std.specs.Map.{keys_of}
use Rattle.std.specs.Ordering.{nat_cmp}
use Rattle.std.specs.Prelude.{nat_le}
use Rattle.std.specs.declared.cmp.Ordering.TheVariants.{Less}
use Rattle.std.proofs.lemmas.Bool.{cases_lt}
use Rattle.run_values.specs.Setups.{has_account}
use Rattle.run_values.specs.declared.directory.OpeningCredit.{OpeningCredit}

-- ---- the part of an account, by halves

later : {X : Type 0} (P : X → Type 0) (x : X) (xs : List X) (from to : ℕ) → AllWithin P (x ∷ xs) (suc from) (suc to) → AllWithin P xs from to
later P x xs from to all = λ k d above below. all (suc k) d (omega (arith, above)) (omega (arith, below))

passes : (p : ℕ → Bool) (x : ℕ) (xs : List ℕ) (rest : ℕ) → p x ≡ true → length (filter p xs) ≡ rest → length (filter p (x ∷ xs)) ≡ suc rest
passes p x xs rest is so = rw is (ap suc so)

fails : (p : ℕ → Bool) (x : ℕ) (xs : List ℕ) (rest : ℕ) → p x ≡ false → length (filter p xs) ≡ rest → length (filter p (x ∷ xs)) ≡ rest
fails p x xs rest is so = rw is so

none_pass : (p : ℕ → Bool) (xs : List ℕ) → AllWithin (λ x. p x ≡ false) xs 0 (length xs) → length (filter p xs) ≡ 0
none_pass p [] all = refl
none_pass p (x ∷ xs) all =
    fails p x xs 0 (all 0 x (omega arith) (omega arith)) (none_pass p xs (λ k d above below. all (suc k) d (omega arith) (omega (arith, below))))

-- as many pass as there are before the first that fails
pub point : (p : ℕ → Bool) (xs : List ℕ) (at : ℕ) → at ≤ length xs → IsPartitionPoint (λ x. p x ≡ true) (λ x. p x ≡ false) xs at → length (filter p xs) ≡ at
point p xs zero within (before, behind) = none_pass p xs behind
point p [] (suc at) within (before, behind) = absurd (omega (arith, within))
point p (x ∷ xs) (suc at) within (before, behind) =
    passes p x xs at (before 0 x (omega arith) (omega arith))
    (point p xs at (omega (arith, within)) (later (λ y. p y ≡ true) x xs 0 at (λ k d above below. before k d (omega arith) below), later (λ y. p y ≡ false) x xs at (length xs) behind))

-- numbers that rise are those up to an account, and then those above it
pub parted : (firsts : List ℕ) (account : ℕ) → IsStrictlySortedBy nat_cmp firsts → IsPartitionedBy (λ first. nat_le first account) firsts
parted firsts account rising = λ i j d before within passed.
    let order = non_decreasing_from_sorted firsts rising i j d before within in
    grind (arith, nat_tests)

-- ---- accounts that begin parts, each above those before it

above_all : (x : ℕ) (xs : List ℕ) (n : ℕ) → AllByRecursion (λ y. nat_cmp x y ≡ Less) xs → x < n → AllByRecursion (λ y. nat_cmp x y ≡ Less) (xs ++ n ∷ [])
above_all x [] n all less = (let is : nat_cmp x n ≡ Less = grind (arith, nat_tests) in is, tt)
above_all x (y ∷ ys) n all less = (all.0, above_all x ys n all.1 less)

rises_more : (xs : List ℕ) (n : ℕ) → IsStrictlySortedBy nat_cmp xs → All (λ x. x < n) xs → IsStrictlySortedBy nat_cmp (xs ++ n ∷ [])
unfolding IsStrictlySortedBy
rises_more [] n rising below = (tt, tt)
rises_more (x ∷ xs) n rising below =
    (above_all x xs n rising.0 (below 0 x (omega arith)), rises_more xs n rising.1 (λ k d within. below (suc k) d (omega (arith, within))))

found_first : (here : Bool) (account : ℕ × OpeningCredit) (accounts : List (ℕ × OpeningCredit)) (number : ℕ) → (account.0 == number) ≡ here → (here ≡ false → has_account number accounts ≡ true)
    → has_account number (account ∷ accounts) ≡ true
found_first true account accounts number is rest = rw is refl
found_first false account accounts number is rest = rw is (rest refl)

found_at : (accounts : List (ℕ × OpeningCredit)) (place : ℕ) (d : ℕ × OpeningCredit) (number : ℕ) → place < length accounts → (get_or accounts place d).0 ≡ number → has_account number accounts ≡ true
found_at [] place d number within is = absurd (omega (arith, within))
found_at (account ∷ accounts) zero d number within is = found_first (account.0 == number) account accounts number refl (λ other. absurd (let same : account.0 ≡ number = is in grind (arith, nat_tests)))
found_at (account ∷ accounts) (suc place) d number within is = found_first (account.0 == number) account accounts number refl (λ other. found_at accounts place d number (omega (arith, within)) is)

-- these begin parts, each an account of the setup and below those from a place on
pub record AreBegun (accounts : List (ℕ × OpeningCredit)) (place : ℕ) (firsts : List ℕ) : Type 0 where
  pub rising : IsStrictlySortedBy nat_cmp firsts
  pub known : All (λ first. has_account first accounts ≡ true) firsts
  pub below : (k : ℕ) (d : ℕ × OpeningCredit) → place ≤ k → k < length accounts → All (λ first. first < (get_or accounts k d).0) firsts

nothing : IsStrictlySortedBy nat_cmp []
unfolding IsStrictlySortedBy
nothing = tt

pub none_begun : (accounts : List (ℕ × OpeningCredit)) (firsts : List ℕ) → firsts ≡ [] → AreBegun accounts 0 firsts
none_begun accounts firsts none = rw none (record {
  rising = nothing;
  known = All-nil (λ first. has_account first accounts ≡ true);
  below = λ k d from within. All-nil (λ first. first < (get_or accounts k d).0);
})

-- at the next place none begins
pub same_begun : (accounts : List (ℕ × OpeningCredit)) (place : ℕ) (firsts : List ℕ) → AreBegun accounts place firsts → AreBegun accounts (place + 1) firsts
same_begun accounts place firsts are = record { rising = are.rising; known = are.known; below = λ k d from within. are.below k d (omega (arith, from)) within }

all_below : (accounts : List (ℕ × OpeningCredit)) (place : ℕ) → place < length accounts → (firsts : List ℕ) (number : ℕ) → ((d : ℕ × OpeningCredit) → All (λ first. first < number) firsts) → All (λ first. first < number) firsts
all_below [] place within firsts number all = absurd (omega (arith, within))
all_below (account ∷ accounts) place within firsts number all = all account

known_at : (accounts : List (ℕ × OpeningCredit)) (place number : ℕ) → place < length accounts → ((d : ℕ × OpeningCredit) → (get_or accounts place d).0 ≡ number) → has_account number accounts ≡ true
known_at [] place number within is = absurd (omega (arith, within))
known_at (account ∷ accounts) place number within is = found_at (account ∷ accounts) place account number within (is account)

-- or the account there does
pub one_begun : (accounts : List (ℕ × OpeningCredit)) (place : ℕ) (firsts : List ℕ) (number : ℕ) (new : List ℕ) → IsStrictlySortedBy nat_cmp (keys_of accounts) → place < length accounts
    → ((d : ℕ × OpeningCredit) → (get_or accounts place d).0 ≡ number) → new ≡ firsts ++ number ∷ [] → AreBegun accounts place firsts → AreBegun accounts (place + 1) new
one_begun accounts place firsts number new ordered within is grown are =
    let Are : List ℕ → Type 0 = λ l. AreBegun accounts (place + 1) l in
    let key : (k : ℕ) (d : ℕ × OpeningCredit) → k < length accounts → get_or (keys_of accounts) k 0 ≡ (get_or accounts k d).0 = λ k d here. get_or-map (λ (account : ℕ × OpeningCredit). account.0) accounts k d 0 here in
    subst Are (sym grown) (record {
      rising = rises_more firsts number are.rising
          (let some : (d : ℕ × OpeningCredit) → All (λ first. first < number) firsts = λ d. subst (λ n. All (λ first. first < n) firsts) (is d) (are.below place d (omega arith) within) in all_below accounts place within firsts number some);
      known = All-append (λ first. has_account first accounts ≡ true) firsts (number ∷ []) are.known
          (All-cons (λ first. has_account first accounts ≡ true) number [] (known_at accounts place number within is) (All-nil (λ first. has_account first accounts ≡ true)));
      below = λ k d from here.
          let P : ℕ → Type 0 = λ first. first < (get_or accounts k d).0 in
          let less = below_from_sorted (keys_of accounts) place k 0 ordered (omega (arith, from)) (let many = length-map accounts (λ (account : ℕ × OpeningCredit). account.0) in omega (arith, here, many)) in
          let ours : number < (get_or accounts k d).0 = let own = key place d within in let other = key k d here in let named = is d in omega (arith, less, own, other, named) in
          All-append P firsts (number ∷ []) (are.below k d (omega (arith, from)) here) (All-cons P number [] ours (All-nil P));
    })

-- one more begins a part
pub one_longer : (firsts : List ℕ) (number : ℕ) (new : List ℕ) → new ≡ firsts ++ number ∷ [] → length new ≡ 1 + length firsts
one_longer firsts number new is = let all = length-append firsts (number ∷ []) in let same = ap length is in omega (arith, all, same)

-- where no part begins, there are accounts enough behind this one
pub still_enough : (count begun left : ℕ) (begins : Bool) → (1 ≤ count - 1 - begun → left ≤ count - 1 - begun → begins ≡ true) → begins ≡ false → count ≤ 1 + begun + left → count ≤ 1 + begun + (left - 1)
still_enough count begun left begins needed not_so enough = by_left (cases_lt (count - 1 - begun) 1) (cases_lt (count - 1 - begun) left)
  where
    by_left : ((count - 1 - begun) < 1) ⊎ (1 ≤ count - 1 - begun) → ((count - 1 - begun) < left) ⊎ (left ≤ count - 1 - begun) → count ≤ 1 + begun + (left - 1)
    by_left (inl none) rest = omega (arith, none)
    by_left (inr some) (inl more) = omega (arith, more, some)
    by_left (inr some) (inr few) = absurd (let is = needed some few in cc)
