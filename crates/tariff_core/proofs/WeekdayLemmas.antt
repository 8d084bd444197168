-- What holds of each weekday.
use Rattle.std.proofs.Common.{◌≡◌, ℕ, zero, suc, ◌<◌, ◌≤◌, ◌+◌, ◌∙◌, ◌⊎◌, inl, inr, Bool, true, false, List, [], ◌∷◌, length, refl, sym, true≢false, arith}
use Rattle.std.specs.Prelude.{◌&&◌, nat_le, nat_lt}
use Rattle.std.specs.List.{list_all, list_any}
use Rattle.std.proofs.lemmas.List.Folds.{list_all_at, list_any_at}
use Rattle.std.proofs.lemmas.Bool.Decides.{nat_tests}
use Rattle.tariff_core.specs.Bands.{weekdays}
use Rattle.tariff_core.specs.TariffTable.{rise_from}

-- a weekday is one of the seven
pub by_weekday : (P : ℕ → Type 0) → P 1 → P 2 → P 3 → P 4 → P 5 → P 6 → P 7 → (day : ℕ) → 1 ≤ day → day ≤ 7 → P day
by_weekday P one two three four five six seven zero low high = absurd (omega (arith, low))
by_weekday P one two three four five six seven (suc zero) low high = one
by_weekday P one two three four five six seven (suc (suc zero)) low high = two
by_weekday P one two three four five six seven (suc (suc (suc zero))) low high = three
by_weekday P one two three four five six seven (suc (suc (suc (suc zero)))) low high = four
by_weekday P one two three four five six seven (suc (suc (suc (suc (suc zero))))) low high = five
by_weekday P one two three four five six seven (suc (suc (suc (suc (suc (suc zero)))))) low high = six
by_weekday P one two three four five six seven (suc (suc (suc (suc (suc (suc (suc zero))))))) low high = seven
by_weekday P one two three four five six seven (suc (suc (suc (suc (suc (suc (suc (suc day)))))))) low high = absurd (omega (arith, high))

-- what passes on a weekday passes on some
pub some_weekday : (p : ℕ → Bool) (day : ℕ) → 1 ≤ day → day ≤ 7 → p day ≡ true → list_any p weekdays ≡ true
some_weekday p = by_weekday (λ day. p day ≡ true → list_any p weekdays ≡ true)
    (list_any_at p weekdays 0 0 (omega arith)) (list_any_at p weekdays 1 0 (omega arith)) (list_any_at p weekdays 2 0 (omega arith)) (list_any_at p weekdays 3 0 (omega arith))
    (list_any_at p weekdays 4 0 (omega arith)) (list_any_at p weekdays 5 0 (omega arith)) (list_any_at p weekdays 6 0 (omega arith))

-- what fails on a weekday doesn't pass on each
pub fails_weekday : (p : ℕ → Bool) (day : ℕ) → 1 ≤ day → day ≤ 7 → p day ≡ false → list_all p weekdays ≡ false
fails_weekday p = by_weekday (λ day. p day ≡ false → list_all p weekdays ≡ false)
    (list_all_at p weekdays 0 0 (omega arith)) (list_all_at p weekdays 1 0 (omega arith)) (list_all_at p weekdays 2 0 (omega arith)) (list_all_at p weekdays 3 0 (omega arith))
    (list_all_at p weekdays 4 0 (omega arith)) (list_all_at p weekdays 5 0 (omega arith)) (list_all_at p weekdays 6 0 (omega arith))

-- what passes on each passes on this one
pub each_weekday : (p : ℕ → Bool) (day : ℕ) → 1 ≤ day → day ≤ 7 → list_all p weekdays ≡ true → p day ≡ true
each_weekday p day low high all = by_test (p day) refl
  where
    by_test : (b : Bool) → p day ≡ b → b ≡ true
    by_test true is = refl
    by_test false is = absurd (true≢false (sym all ∙ fails_weekday p day low high is))

-- what passes on none fails on this one
pub no_weekday : (p : ℕ → Bool) (day : ℕ) → 1 ≤ day → day ≤ 7 → list_any p weekdays ≡ false → p day ≡ false
no_weekday p day low high none = by_test (p day) refl
  where
    by_test : (b : Bool) → p day ≡ b → b ≡ false
    by_test false is = refl
    by_test true is = absurd (true≢false (sym (some_weekday p day low high is) ∙ none))

-- what passes on each of the seven
pub all_weekdays : (p : ℕ → Bool) → ((day : ℕ) → 1 ≤ day → day ≤ 7 → p day ≡ true) → list_all p weekdays ≡ true
all_weekdays p each =
    rw (
      each 1 (omega arith) (omega arith),
      each 2 (omega arith) (omega arith),
      each 3 (omega arith) (omega arith),
      each 4 (omega arith) (omega arith),
      each 5 (omega arith) (omega arith),
      each 6 (omega arith) (omega arith),
      each 7 (omega arith) (omega arith),
    ) refl

pub none_of_weekdays : (p : ℕ → Bool) → ((day : ℕ) → 1 ≤ day → day ≤ 7 → p day ≡ false) → list_any p weekdays ≡ false
none_of_weekdays p each =
    rw (
      each 1 (omega arith) (omega arith),
      each 2 (omega arith) (omega arith),
      each 3 (omega arith) (omega arith),
      each 4 (omega arith) (omega arith),
      each 5 (omega arith) (omega arith),
      each 6 (omega arith) (omega arith),
      each 7 (omega arith) (omega arith),
    ) refl

-- ---- a text of days

goes_on : (last digit : ℕ) (more : Bool) → last < digit → digit ≤ 55 → (nat_lt last digit && nat_le digit 55 && more) ≡ more
goes_on last digit more low high = rw (first low, second high) refl
  where
    first : last < digit → nat_lt last digit ≡ true
    first less = grind (arith, nat_tests, less)

    second : digit ≤ 55 → nat_le digit 55 ≡ true
    second le = grind (arith, nat_tests, le)

-- a digit above the one before it
pub rise_on : (last digit : ℕ) (rest : List ℕ) → last < digit → digit ≤ 55 → rise_from last (digit ∷ rest) ≡ rise_from digit rest
unfolding rise_from
rise_on last digit rest low high = goes_on last digit (rise_from digit rest) low high

stops : (last digit : ℕ) (more : Bool) → (digit ≤ last) ⊎ (55 < digit) → (nat_lt last digit && nat_le digit 55 && more) ≡ false
stops last digit more (inl low) = let first : nat_lt last digit ≡ false = grind (arith, nat_tests, low) in rw first refl
stops last digit more (inr high) = let second : nat_le digit 55 ≡ false = grind (arith, nat_tests, high) in rw second (none (nat_lt last digit))
  where
    none : (b : Bool) → (b && false && more) ≡ false
    none true = refl
    none false = refl

-- one that isn't, or that is above 7
pub rise_stops : (last digit : ℕ) (rest : List ℕ) → (digit ≤ last) ⊎ (55 < digit) → rise_from last (digit ∷ rest) ≡ false
unfolding rise_from
rise_stops last digit rest past = stops last digit (rise_from digit rest) past

pub three : (a b c : Bool) → (a && b && c) ≡ true → (a ≡ true) × (b ≡ true) × (c ≡ true)
three true true c is = (refl, refl, is)
three true false c is = cc
three false b c is = cc

rising_parts : (last digit : ℕ) (more : Bool) → (nat_lt last digit && nat_le digit 55 && more) ≡ true → (last < digit) × (digit ≤ 55) × (more ≡ true)
rising_parts last digit more is =
    let parts = three (nat_lt last digit) (nat_le digit 55) more is in
    (below last digit parts.0, within digit parts.1, parts.2)
  where
    below : (s t : ℕ) → nat_lt s t ≡ true → s < t
    below s t is = grind (arith, nat_tests)

    within : (s : ℕ) → nat_le s 55 ≡ true → s ≤ 55
    within s is = grind (arith, nat_tests)

-- a digit isn't above the one before it, or it is above 7
pub past : (last digit : ℕ) → (digit ≤ last) ⊎ ((last < digit) × (55 < digit)) → (digit ≤ last) ⊎ (55 < digit)
past last digit (inl low) = inl low
past last digit (inr high) = inr high.1

-- there are no more of them than digits up to 7
pub rise_short : (last : ℕ) (text : List ℕ) → last ≤ 55 → rise_from last text ≡ true → last + length text ≤ 55
unfolding rise_from
rise_short last [] within is = omega (arith, within)
rise_short last (digit ∷ rest) within is =
    let parts = rising_parts last digit (rise_from digit rest) is in
    let later : digit + length rest ≤ 55 = rise_short digit rest parts.1 parts.2 in
    omega (arith, later, parts.0)
