-- Sums over lists that have the same numbers, and over books.
use Rattle.std.proofs.Common.{◌≡◌, ◌≢◌, ◌==◌, ◌≤◌, ◌+◌, ◌||◌, ℕ, Bool, true, false, true≢false, Option, Some, None, List, [], ◌∷◌, map, refl, sym, ap, subst, ◌∙◌, Less, arith, sum_by, All, cond}
use Rattle.std.specs.Prelude.{find, if◌then◌else◌}
use Rattle.std.specs.List.{AllByRecursion, list_any}
use Rattle.std.specs.List.Sorted.{IsStrictlySortedBy}
use Rattle.std.specs.Ordering.{nat_cmp}
use Rattle.std.proofs.lemmas.Bool.{eq-eqb, eqb-true}
use Rattle.std.proofs.lemmas.Bool.Decides.{nat_tests}
use Rattle.std.proofs.lemmas.List.Elements.{All-cons, All-head, All-nil, All-tail}
use Rattle.std.proofs.lemmas.List.Sums.{sum_by-cons}
use Rattle.account_core.proofs.Sums.{sum_absent, sum_once, times_in}
use Rattle.account_core.specs.Closed.{Closed}

-- ---- over two lists in which each number with a value occurs as often, and at most once

without : ℕ → (ℕ → ℕ) → ℕ → ℕ
without c f d = if c == d then 0 else f d

-- nothing that has a value is in a list
sum_none : (f : ℕ → ℕ) (ds : List ℕ) → ((d : ℕ) → f d ≢ 0 → times_in d ds ≡ 0) → sum_by f ds ≡ 0
sum_none f [] none = refl
sum_none f (d ∷ ds) none = sum_by-cons f d ds ∙ by (sum_none f ds (λ e some. rest e (e == d) (none e some))) (f d == 0) refl
  where
    rest : (e : ℕ) (here : Bool) → (if here then 1 + times_in e ds else times_in e ds) ≡ 0 → times_in e ds ≡ 0
    rest e true is = omega (arith, is)
    rest e false is = is

    by : sum_by f ds ≡ 0 → (zero : Bool) → (f d == 0) ≡ zero → f d + sum_by f ds ≡ 0
    by later true is = let no_value : f d ≡ 0 = eqb-true (f d) 0 is in omega (arith, later, no_value)
    by later false is =
        let some : f d ≢ 0 = λ same. true≢false (sym (eq-eqb (f d) 0 same) ∙ is) in
        let stands : (if d == d then 1 + times_in d ds else times_in d ds) ≡ 0 = none d some in
        absurd (omega (arith, rw (eq-eqb d d refl) at stands))

tail_once : (c : ℕ) (ds : List ℕ) → ((d : ℕ) → times_in d (c ∷ ds) ≤ 1) → (d : ℕ) → times_in d ds ≤ 1
tail_once c ds once d = by (d == c) (once d)
  where
    by : (here : Bool) → (if here then 1 + times_in d ds else times_in d ds) ≤ 1 → times_in d ds ≤ 1
    by true is = omega (arith, is)
    by false is = is

-- the value of the first number goes to both sums
one_more : (fc F G H K : ℕ) → F ≡ G → G ≡ H → H + fc ≡ K + 0 → fc + F ≡ K
one_more fc F G H K first second third = omega (arith, first, second, third)

module _ (f : ℕ → ℕ) (c : ℕ) where
  apart : (d : ℕ) → (c == d) ≡ false → without c f d ≡ f d
  unfolding without
  apart d differs = rw (differs) refl

  at_it : without c f c ≡ 0
  unfolding without
  at_it = rw (eq-eqb c c refl) refl

  without_some : (d : ℕ) → without c f d ≢ 0 → ((d == c) ≡ false) × (f d ≢ 0)
  unfolding without
  without_some d some = by (c == d) refl some
    where
      by : (same : Bool) → (c == d) ≡ same → (if same then 0 else f d) ≢ 0 → ((d == c) ≡ false) × (f d ≢ 0)
      by true same never = absurd (never refl)
      by false same value = (grind (arith, nat_tests, same), value)

differs : (f : ℕ → ℕ) (c d : ℕ) → f d ≢ 0 → f c ≡ 0 → (d == c) ≡ false
differs f c d some no_value = by (d == c) refl
  where
    by : (same : Bool) → (d == c) ≡ same → (d == c) ≡ false
    by true same = absurd (some (ap f (eqb-true d c same) ∙ no_value))
    by false same = same

pub same_sum : (f : ℕ → ℕ) (cs ds : List ℕ) → ((d : ℕ) → times_in d cs ≤ 1) → ((d : ℕ) → f d ≢ 0 → times_in d cs ≡ times_in d ds) → sum_by f cs ≡ sum_by f ds
same_sum f [] ds once like = sym (sum_none f ds (λ d some. sym (like d some)))
same_sum f (c ∷ cs) ds once like =
    sum_by-cons f c cs
    ∙ by (λ alike. same_sum f cs ds (tail_once c cs once) alike) (λ alike. same_sum (without c f) cs ds (tail_once c cs once) alike) (f c == 0) refl
  where
    elsewhere : (d : ℕ) → (d == c) ≡ false → times_in d (c ∷ cs) ≡ times_in d cs
    elsewhere d differs = rw (differs) refl

    here : times_in c (c ∷ cs) ≡ 1 + times_in c cs
    here = rw (eq-eqb c c refl) refl

    by : (((d : ℕ) → f d ≢ 0 → times_in d cs ≡ times_in d ds) → sum_by f cs ≡ sum_by f ds)
        → (((d : ℕ) → without c f d ≢ 0 → times_in d cs ≡ times_in d ds) → sum_by (without c f) cs ≡ sum_by (without c f) ds)
        → (zero : Bool) → (f c == 0) ≡ zero → f c + sum_by f cs ≡ sum_by f ds
    by plain without_it true is =
        let no_value : f c ≡ 0 = eqb-true (f c) 0 is in
        let rest : sum_by f cs ≡ sum_by f ds = plain (λ d some. sym (elsewhere d (differs f c d some no_value)) ∙ like d some) in
        omega (arith, rest, no_value)
    by plain without_it false is =
        let some : f c ≢ 0 = λ same. true≢false (sym (eq-eqb (f c) 0 same) ∙ is) in
        let once_here : 1 + times_in c cs ≤ 1 = subst (λ n. n ≤ 1) here (once c) in
        let absent : times_in c cs ≡ 0 = omega (arith, once_here) in
        let once_there : times_in c ds ≡ 1 = omega (arith, sym (like c some) ∙ here, absent) in
        let rest : sum_by (without c f) cs ≡ sum_by (without c f) ds =
        without_it (λ d value. let (other, own) = without_some f c d value in sym (elsewhere d other) ∙ like d own) in
        one_more (f c) (sum_by f cs) (sum_by (without c f) cs) (sum_by (without c f) ds) (sum_by f ds)
        (sym (sum_absent f (without c f) c (apart f c) cs absent)) rest
        (sum_once f (without c f) c (apart f c) ds once_there ∙ ap (λ n. sum_by f ds + n) (at_it f c))

-- ---- over a list that rises

below : (s n : ℕ) → nat_cmp s n ≡ Less → (s == n) ≡ false
below s n is = grind (arith, nat_tests, is)

above_none : (c d : ℕ) (cs : List ℕ) → c ≡ d → AllByRecursion (λ e. nat_cmp c e ≡ Less) cs → times_in d cs ≡ 0
above_none c d [] same above = refl
above_none c d (e ∷ cs) same above =
    let apart_so : (d == e) ≡ false = below d e (subst (λ n. nat_cmp n e ≡ Less) same above.0) in
    rw (apart_so) (above_none c d cs same above.1)

-- a number is in it once, if at all
pub rising_once : (cs : List ℕ) → IsStrictlySortedBy nat_cmp cs → (d : ℕ) → times_in d cs ≡ (if list_any (λ c. d == c) cs then 1 else 0)
unfolding IsStrictlySortedBy
rising_once [] rising d = refl
rising_once (c ∷ cs) rising d = by (rising_once cs rising.1 d) (d == c) refl
  where
    by : times_in d cs ≡ (if list_any (λ c. d == c) cs then 1 else 0) → (here : Bool) → (d == c) ≡ here
        → (if here then 1 + times_in d cs else times_in d cs) ≡ (if here || list_any (λ c. d == c) cs then 1 else 0)
    by rest true is = ap (λ n. 1 + n) (above_none c d cs (sym (eqb-true d c is)) rising.0)
    by rest false is = rest

-- ---- over books

-- books without a value have none together
pub nothing_in : (f : Closed → ℕ) (books : List Closed) → All (λ book. f book ≡ 0) books → sum_by f books ≡ 0
nothing_in f [] all = refl
nothing_in f (book ∷ books) all =
    let here : f book ≡ 0 = All-head (λ (b : Closed). f b ≡ 0) book books all in
    let later : sum_by f books ≡ 0 = nothing_in f books (All-tail (λ (b : Closed). f b ≡ 0) book books all) in
    sum_by-cons f book books ∙ omega (arith, here, later)

-- the value of a book, if there is one
abbrev pub value_in : (Closed → ℕ) → Option Closed → ℕ
value_in f None = 0
value_in f (Some book) = f book

pub no_value : (n : ℕ) → (n ≢ 0 → ⊥) → n ≡ 0
no_value n never = by (n == 0) refl
  where
    by : (is_zero : Bool) → (n == 0) ≡ is_zero → n ≡ 0
    by true is = eqb-true n 0 is
    by false is = absurd (never (λ same. true≢false (sym (eq-eqb n 0 same) ∙ is)))

-- the books behind that of an account are of others
others : (f : Closed → ℕ) (account : ℕ) (books : List Closed) → AllByRecursion (λ n. nat_cmp account n ≡ Less) (map (λ book. book.account) books)
    → All (λ book. f book ≢ 0 → book.account ≡ account) books → All (λ book. f book ≡ 0) books
others f account [] above all = All-nil (λ (b : Closed). f b ≡ 0)
others f account (next ∷ books) above all =
    let Own : Closed → Type 0 = λ b. f b ≢ 0 → b.account ≡ account in
    All-cons (λ (b : Closed). f b ≡ 0) next books
    (no_value (f next) (λ some. true≢false (sym (eq-eqb account next.account (sym (All-head Own next books all some))) ∙ below account next.account above.0)))
    (others f account books above.1 (All-tail Own next books all))

-- where just the book of an account has a value, this is the value of all
pub only_one : (f : Closed → ℕ) (account : ℕ) (books : List Closed) → IsStrictlySortedBy nat_cmp (map (λ book. book.account) books)
    → All (λ book. f book ≢ 0 → book.account ≡ account) books → sum_by f books ≡ value_in f (find (λ book. book.account == account) books)
unfolding IsStrictlySortedBy
only_one f account [] rising own = refl
only_one f account (book ∷ books) rising own =
    sum_by-cons f book books
    ∙ by (only_one f account books rising.1 (All-tail (λ (b : Closed). f b ≢ 0 → b.account ≡ account) book books own)) (book.account == account) refl
  where
    by : sum_by f books ≡ value_in f (find (λ b. b.account == account) books) → (here : Bool) → (book.account == account) ≡ here
        → f book + sum_by f books ≡ value_in f (cond here (Some book) (find (λ b. b.account == account) books))
    by rest true is =
        let same : book.account ≡ account = eqb-true book.account account is in
        let none : sum_by f books ≡ 0 =
        nothing_in f books (others f account books (subst (λ n. AllByRecursion (λ m. nat_cmp n m ≡ Less) (map (λ (b : Closed). b.account) books)) same rising.0)
        (All-tail (λ (b : Closed). f b ≢ 0 → b.account ≡ account) book books own)) in
        omega (arith, none)
    by rest false is =
        let none : f book ≡ 0 =
        no_value (f book) (λ some. true≢false (sym (eq-eqb book.account account (All-head (λ (b : Closed). f b ≢ 0 → b.account ≡ account) book books own some)) ∙ is)) in
        omega (arith, none, rest)
