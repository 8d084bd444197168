-- The greatest price is attained, and is the price of one of two times.
use Rattle.std.proofs.Common.{◌≡◌, ℕ, zero, suc, ◌+◌, ◌*◌, ◌-◌, ◌≤◌, Bool, true, false, Option, None, max, refl, sym, ◌∙◌, inl, inr, arith}
use Rattle.std.specs.Prelude.{◌⊎◌, if◌then◌else◌, IsSome, is_some}
use Rattle.std.proofs.Math.Nat.{le-max_left, le-max_right, max-le, mul-le-mul_left, mul-le-mul_right}
use Rattle.price_core.specs.Ceiling.{are_times, ceiling_of, greatest, may_come, price_if_lawful}
use Rattle.price_core.specs.Price.{billed_before, billed_in_all, charged_after, charged_before, cost_of, price_at, price_of, second_rate}
use Rattle.price_core.specs.Rates.{Rates}
use Rattle.price_core.specs.Times.{Elapsed}
use Rattle.price_core.proofs.LawfulLemmas.{Comes, comes, may_come_by, or_zero}
use Rattle.price_core.proofs.Prices.{billed_grows, billed_part, price_after, price_before, price_grows}

below_or_last : (n k : ℕ) → k ≤ suc n → (k ≤ n) ⊎ (k ≡ suc n)
below_or_last n k le = grind arith

reaches : (n : ℕ) (f : ℕ → ℕ) (k : ℕ) → (k ≤ n → f k ≤ greatest n f) → (k ≤ n) ⊎ (k ≡ suc n) → f k ≤ max (greatest n f) (f (suc n))
reaches n f k before (inl below) = omega (arith, before below, le-max_left (greatest n f) (f (suc n)))
reaches n f k before (inr same) = rw same (le-max_right (greatest n f) (f (suc n)))

greatest_at : (n : ℕ) (f : ℕ → ℕ) (k : ℕ) → k ≤ n → f k ≤ greatest n f
unfolding greatest
greatest_at zero f k le = let same : k ≡ 0 = omega arith in rw same (omega arith)
greatest_at (suc n) f k le = reaches n f k (greatest_at n f k) (below_or_last n k le)

greatest_least : (n : ℕ) (f : ℕ → ℕ) (most : ℕ) → ((k : ℕ) → f k ≤ most) → greatest n f ≤ most
unfolding greatest
greatest_least zero f most h = h 0
greatest_least (suc n) f most h = max-le (greatest_least n f most h) (h (suc n))

if_least : (b : Bool) (price most : ℕ) → (b ≡ true → price ≤ most) → (if b then price else 0) ≤ most
if_least true price most h = h refl
if_least false price most h = omega arith

at_least : (b : Bool) (price : ℕ) → b ≡ true → price ≤ (if b then price else 0)
at_least b price h = rw h (omega arith)

module _ (plan : Rates) (old : Elapsed) (more : ℕ) where
  granted : ℕ
  granted = old.before + old.after + more

  price_or_none : ℕ → ℕ → Bool → ℕ
  price_or_none before after switched = price_if_lawful plan old granted (record { before = before; after = after; switched = switched })

  dearer : ℕ → ℕ → ℕ
  dearer before after = max (price_or_none before after false) (price_or_none before after true)

  dearest : ℕ → ℕ
  dearest before = greatest granted (dearer before)

  covers_dearer : (before after : ℕ) (switched : Bool) → price_or_none before after switched ≤ dearer before after
  unfolding dearer
  covers_dearer before after false = le-max_left (price_or_none before after false) (price_or_none before after true)
  covers_dearer before after true = le-max_right (price_or_none before after false) (price_or_none before after true)

  -- no price that a call may come to is above the ceiling
  pub ceiling_covers : (new : Elapsed) → may_come plan old (old.before + old.after + more) new ≡ true → price_at plan new ≤ ceiling_of plan old more
  unfolding ceiling_of dearest dearer granted price_or_none
  ceiling_covers new may =
      let facts = comes plan old (old.before + old.after + more) new may in
      let priced = at_least (may_come plan old granted new) (price_at plan new) may in
      let inner = greatest_at granted (dearer new.before) new.after (omega (arith, facts.within)) in
      let outer = greatest_at granted dearest new.before (omega (arith, facts.within)) in
      omega (arith, priced, covers_dearer new.before new.after new.switched, inner, outer)

-- and the ceiling is not above what bounds all of them
pub ceiling_least : (plan : Rates) (old : Elapsed) (more most : ℕ) → ((new : Elapsed) → may_come plan old (old.before + old.after + more) new ≡ true → price_at plan new ≤ most)
    → ceiling_of plan old more ≤ most
unfolding ceiling_of
ceiling_least plan old more most h =
    greatest_least _ _ most (λ before. greatest_least _ _ most (λ after. max-le
    (if_least _ _ most (h (record { before = before; after = after; switched = false })))
    (if_least _ _ most (h (record { before = before; after = after; switched = true })))))

-- ---- the ceiling in closed form

-- more time at no less cost has no lower price
dearer_price : (plan : Rates) (b a b' a' : ℕ) → b + a ≤ b' + a'
    → cost_of plan b a ≤ cost_of plan b' a' → price_of plan b a ≤ price_of plan b' a'
dearer_price plan b a b' a' longer more = price_grows plan.fee (b + a) (b' + a') _ _ longer more

-- the call that goes on before its switch, and the one that goes on after it
abbrev pub going_on : Elapsed → ℕ → Elapsed
going_on old more = record { before = old.before + more; after = old.after; switched = false }

abbrev pub switching : Elapsed → ℕ → Elapsed
switching old more = record { before = old.before; after = old.after + more; switched = true }

may_go_on : (plan : Rates) (old : Elapsed) (more : ℕ) → old.switched ≡ false → old.after ≡ 0 → may_come plan old (old.before + old.after + more) (going_on old more) ≡ true
may_go_on plan old more unswitched none = may_come_by plan old (old.before + old.after + more) (going_on old more) (record {
  unswitched = λ e. none;
  before = omega arith;
  after = omega arith;
  kept = λ s. let no : true ≡ false = sym s ∙ unswitched in cc;
  rated = λ s. let no : false ≡ true = s in cc;
  within = omega arith;
})

may_switch : (plan : Rates) (old : Elapsed) (more : ℕ) → is_some plan.after ≡ true → may_come plan old (old.before + old.after + more) (switching old more) ≡ true
may_switch plan old more rated = may_come_by plan old (old.before + old.after + more) (switching old more) (record {
  unswitched = λ e. cc;
  before = omega arith;
  after = omega arith;
  kept = λ _. (refl, refl);
  rated = λ _. rated;
  within = omega arith;
})

pub ceiling_switched : (plan : Rates) (old : Elapsed) (more : ℕ) → old.switched ≡ true → is_some plan.after ≡ true
    → ceiling_of plan old more ≡ price_of plan old.before (old.after + more)
ceiling_switched plan old more switched rated =
    let least = ceiling_least plan old more (price_at plan (switching old more)) (λ new comes_new.
    let facts = comes plan old (old.before + old.after + more) new comes_new in
    let same = (facts.kept switched).1 in
    rw same (price_after plan old.before new.after (old.after + more) (omega (arith, same, facts.within)))) in
    omega (arith, ceiling_covers plan old more (switching old more) (may_switch plan old more rated), least)

-- a plan with one rate: all that is granted lies before a switch
pub ceiling_single : (plan : Rates) (old : Elapsed) (more : ℕ) → old.switched ≡ false → old.after ≡ 0 → is_some plan.after ≡ false
    → ceiling_of plan old more ≡ price_of plan (old.before + more) old.after
ceiling_single plan old more unswitched none single =
    let least = ceiling_least plan old more (price_at plan (going_on old more)) (λ new comes_new.
    let facts = comes plan old (old.before + old.after + more) new comes_new in
    let nothing : new.after ≡ 0 = single_after new facts in
    rw nothing (price_before plan new.before (old.before + more) old.after (omega (arith, none, facts.within)))) in
    omega (arith, ceiling_covers plan old more (going_on old more) (may_go_on plan old more unswitched none), least)
  where
    single_after : (new : Elapsed) → Comes plan old (old.before + old.after + more) new → new.after ≡ 0
    single_after new facts = by_switch new.switched refl
      where
        by_switch : (s : Bool) → new.switched ≡ s → new.after ≡ 0
        by_switch true is = let no : false ≡ true = sym single ∙ facts.rated is in cc
        by_switch false is = facts.unswitched is

-- x units at the first rate and y at the second cost no more than if those beyond m were all at the dearer of the two
split_beyond : (k y m n r s : ℕ) → k + y ≤ n → (s ≤ r) ⊎ (r ≤ s) → ((m + k) * r + y * s ≤ (m + n) * r) ⊎ ((m + k) * r + y * s ≤ m * r + n * s)
split_beyond k y m n r s within (inl first) = inl (omega (arith, mul-le-mul_left y first, mul-le-mul_right r within))
split_beyond k y m n r s within (inr second) = inr (omega (arith, mul-le-mul_left k second, mul-le-mul_right s within))

split_cost : (x y m n r s : ℕ) → m ≤ x → x + y ≤ m + n → (x * r + y * s ≤ (m + n) * r) ⊎ (x * r + y * s ≤ m * r + n * s)
split_cost x y m n r s from within =
    let order : (s ≤ r) ⊎ (r ≤ s) = grind arith in
    let beyond : x ≡ m + (x - m) = omega arith in
    rw beyond (split_beyond (x - m) y m n r s (omega arith) order)

either : (plan : Rates) (old : Elapsed) (more most : ℕ) (new : Elapsed) → Comes plan old (old.before + old.after + more) new → old.after ≡ 0
    → price_of plan (old.before + more) old.after ≤ most → price_of plan old.before (old.after + more) ≤ most → price_at plan new ≤ most
either plan old more most new facts none first second =
    by_cost (split_cost early late kept beyond plan.before (second_rate plan) grown (omega (arith, within, grown, part, whole)))
  where
    -- what is billed of the new times, at the first rate and at the second
    early : ℕ
    early = billed_before plan new.before

    late : ℕ
    late = billed_in_all plan new.before new.after - early

    -- and where all that is granted lies after the switch
    kept : ℕ
    kept = billed_before plan old.before

    beyond : ℕ
    beyond = billed_in_all plan old.before more - kept

    grown : kept ≤ early
    grown = billed_grows plan (charged_before plan old.before) (charged_before plan new.before) (omega (arith, facts.before))

    part : early ≤ billed_in_all plan new.before new.after
    part = billed_part plan new.before new.after

    whole : kept ≤ billed_in_all plan old.before more
    whole = billed_part plan old.before more

    within : billed_in_all plan new.before new.after ≤ billed_in_all plan old.before more
    within =
        billed_grows plan (charged_before plan new.before + charged_after plan new.before new.after) (charged_before plan old.before + charged_after plan old.before more)
        (omega (arith, none, facts.before, facts.within))

    -- all at the first rate: as much is billed as where all that is granted lies before the switch
    all_first : cost_of plan new.before new.after ≤ (kept + beyond) * plan.before → cost_of plan new.before new.after ≤ cost_of plan (old.before + more) old.after
    all_first cheaper =
        let charged : charged_before plan old.before + charged_after plan old.before more ≡ charged_before plan (old.before + more) = omega arith in
        let same : kept + beyond ≡ billed_before plan (old.before + more) = rw (← charged) (omega (arith, whole)) in
        omega (arith, rw same at cheaper)

    all_second : cost_of plan new.before new.after ≤ kept * plan.before + beyond * second_rate plan → cost_of plan new.before new.after ≤ cost_of plan old.before (old.after + more)
    all_second cheaper = let nothing : old.after + more ≡ more = omega (arith, none) in rw nothing cheaper

    by_cost : (cost_of plan new.before new.after ≤ (kept + beyond) * plan.before) ⊎ (cost_of plan new.before new.after ≤ kept * plan.before + beyond * second_rate plan)
        → price_at plan new ≤ most
    by_cost (inl cheaper) = omega (arith, first, dearer_price plan new.before new.after (old.before + more) old.after (omega (arith, facts.within)) (all_first cheaper))
    by_cost (inr cheaper) = omega (arith, second, dearer_price plan new.before new.after old.before (old.after + more) (omega (arith, facts.within)) (all_second cheaper))

-- a plan with two rates, before its switch: all that is granted lies before the switch, or all of it after
pub ceiling_double : (plan : Rates) (old : Elapsed) (more : ℕ) → old.switched ≡ false → old.after ≡ 0 → is_some plan.after ≡ true
    → ceiling_of plan old more ≡ max (price_of plan (old.before + more) old.after) (price_of plan old.before (old.after + more))
ceiling_double plan old more unswitched none rated =
    let first = going_on old more in
    let second = switching old more in
    let least = ceiling_least plan old more (max (price_at plan first) (price_at plan second)) (λ new comes_new.
    either plan old more (max (price_at plan first) (price_at plan second)) new (comes plan old (old.before + old.after + more) new comes_new) none
    (le-max_left (price_at plan first) (price_at plan second)) (le-max_right (price_at plan first) (price_at plan second))) in
    let covers = max-le (ceiling_covers plan old more first (may_go_on plan old more unswitched none)) (ceiling_covers plan old more second (may_switch plan old more rated)) in
    omega (arith, least, covers)

-- a plan with one rate has no call that has switched
pub unswitched_by : (switched : Bool) (after : Option ℕ) → (switched ≡ true → IsSome after) → after ≡ None → switched ≡ false
unswitched_by true after rated none = let no = rw none at (rated refl) in cc
unswitched_by false after rated none = refl

-- ---- the ceiling is attained

-- some times that a call may come to cost so much
abbrev pub IsAttained : Rates → Elapsed → ℕ → Type 0
IsAttained plan old more = (new : Elapsed) × (may_come plan old (old.before + old.after + more) new ≡ true) × (price_at plan new ≡ ceiling_of plan old more)

one_of : (p q : ℕ) → (max p q ≡ p) ⊎ (max p q ≡ q)
one_of p q = grind arith

pub attained_switched : (plan : Rates) (old : Elapsed) (more : ℕ) → old.switched ≡ true → is_some plan.after ≡ true → IsAttained plan old more
attained_switched plan old more switched rated = (switching old more, may_switch plan old more rated, sym (ceiling_switched plan old more switched rated))

pub attained_unswitched : (plan : Rates) (old : Elapsed) (more : ℕ) (rated : Bool) → is_some plan.after ≡ rated → old.switched ≡ false → old.after ≡ 0 → IsAttained plan old more
attained_unswitched plan old more false single unswitched none =
    (going_on old more, may_go_on plan old more unswitched none, sym (ceiling_single plan old more unswitched none single))
attained_unswitched plan old more true rated unswitched none =
    by_max (one_of (price_at plan (going_on old more)) (price_at plan (switching old more)))
  where
    dearest : ceiling_of plan old more ≡ max (price_at plan (going_on old more)) (price_at plan (switching old more))
    dearest = ceiling_double plan old more unswitched none rated

    by_max : (max (price_at plan (going_on old more)) (price_at plan (switching old more)) ≡ price_at plan (going_on old more))
        ⊎ (max (price_at plan (going_on old more)) (price_at plan (switching old more)) ≡ price_at plan (switching old more)) → IsAttained plan old more
    by_max (inl first) = (going_on old more, may_go_on plan old more unswitched none, sym (dearest ∙ first))
    by_max (inr second) = (switching old more, may_switch plan old more rated, sym (dearest ∙ second))

pub attained : (plan : Rates) (old : Elapsed) (more : ℕ) → are_times old ≡ true → (old.switched ≡ true → IsSome plan.after) → IsAttained plan old more
attained plan old more times rated = by_switch old.switched refl
  where
    by_switch : (s : Bool) → old.switched ≡ s → IsAttained plan old more
    by_switch true is = attained_switched plan old more is (rated is)
    by_switch false is = attained_unswitched plan old more _ refl is (or_zero old.switched old.after times is)
