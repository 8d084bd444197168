-- Sums over lists that have a number at most once.
use Rattle.std.proofs.Common.{◌≡◌, ℕ, ◌+◌, ◌≤◌, Bool, true, false, List, [], ◌∷◌, refl, sym, ap, arith}
use Rattle.std.specs.Prelude.{◌==◌, if◌then◌else◌, sum_by}
use Rattle.std.proofs.lemmas.Bool.{eqb-true}
use Rattle.std.proofs.lemmas.List.Sums.{sum_by-cons}

-- how often a number occurs in a list
abbrev pub times_in : ℕ → List ℕ → ℕ
times_in c [] = 0
times_in c (d ∷ ds) = if c == d then 1 + times_in c ds else times_in c ds

absent_cons : (here : Bool) (n f g F G : ℕ) → (here ≡ false → g ≡ f) → (n ≡ 0 → G ≡ F) → (if here then 1 + n else n) ≡ 0 → g + G ≡ f + F
absent_cons true n f g F G same rest none = absurd (omega (arith, none))
absent_cons false n f g F G same rest none = omega (arith, same refl, rest none)

once_cons : (here : Bool) (n f g F G f0 g0 : ℕ) → (here ≡ true → (f ≡ f0) × (g ≡ g0)) → (here ≡ false → g ≡ f)
    → (n ≡ 0 → G ≡ F) → (n ≡ 1 → G + f0 ≡ F + g0) → (if here then 1 + n else n) ≡ 1 → g + G + f0 ≡ f + F + g0
once_cons true n f g F G f0 g0 same apart rest0 rest1 once = let e : n ≡ 0 = omega (arith, once) in omega (arith, (same refl).0, (same refl).1, rest0 e)
once_cons false n f g F G f0 g0 same apart rest0 rest1 once = omega (arith, apart refl, rest1 once)

module _ (f g : ℕ → ℕ) (c : ℕ) (apart : (d : ℕ) → (c == d) ≡ false → g d ≡ f d) where
  -- two functions that differ at one number have the same sum where it is absent
  pub sum_absent : (ds : List ℕ) → times_in c ds ≡ 0 → sum_by g ds ≡ sum_by f ds
  sum_absent [] none = refl
  sum_absent (d ∷ ds) none =
      rw (sum_by-cons f d ds, sum_by-cons g d ds) (absent_cons (c == d) (times_in c ds) (f d) (g d) (sum_by f ds) (sum_by g ds) (apart d) (sum_absent ds) none)

  -- and differ by that number's values where it occurs once
  pub sum_once : (ds : List ℕ) → times_in c ds ≡ 1 → sum_by g ds + f c ≡ sum_by f ds + g c
  sum_once [] once = absurd (omega (arith, once))
  sum_once (d ∷ ds) once =
      rw (sum_by-cons f d ds, sum_by-cons g d ds)
      (once_cons (c == d) (times_in c ds) (f d) (g d) (sum_by f ds) (sum_by g ds) (f c) (g c)
      (λ here. let is : d ≡ c = sym (eqb-true c d here) in (ap f is, ap g is)) (apart d) (sum_absent ds) (sum_once ds) once)

at_most_cons : (here : Bool) (n f F f0 : ℕ) → (here ≡ true → f ≡ f0) → (n ≡ 1 → f0 ≤ F) → (if here then 1 + n else n) ≡ 1 → f0 ≤ f + F
at_most_cons true n f F f0 same rest once = omega (arith, same refl)
at_most_cons false n f F f0 same rest once = omega (arith, rest once)

-- a number's value is at most the sum where it occurs once
pub at_most_sum : (f : ℕ → ℕ) (c : ℕ) (ds : List ℕ) → times_in c ds ≡ 1 → f c ≤ sum_by f ds
at_most_sum f c [] once = absurd (omega (arith, once))
at_most_sum f c (d ∷ ds) once =
    rw (sum_by-cons f d ds) (at_most_cons (c == d) (times_in c ds) (f d) (sum_by f ds) (f c) (λ here. ap f (sym (eqb-true c d here))) (at_most_sum f c ds) once)
