-- A price grows along lawful times.
use Rattle.std.proofs.Common.{◌≡◌, ℕ, zero, suc, ◌+◌, ◌-◌, ◌*◌, ◌<◌, ◌≤◌, Bool, true, false, refl, inl, inr, arith}
use Rattle.std.proofs.Math.Nat.{mul-le-mul_right}
use Rattle.std.proofs.lemmas.Bool.Decides.{nat_tests}
use Rattle.std.proofs.lemmas.Grind.{div_ceil_times}
use Rattle.std.specs.Prelude.{◌⊎◌, if◌then◌else◌, ◌==◌}
use Rattle.std.specs.Int.{div_ceil}
use Rattle.price_core.specs.Lawful.{is_lawful}
use Rattle.price_core.specs.Price.{billed, billed_before, billed_in_all, charged_after, charged_before, cost_of, price_at, price_of, second_rate}
use Rattle.price_core.specs.Rates.{Rates}
use Rattle.price_core.specs.Times.{Elapsed}
use Rattle.price_core.proofs.LawfulLemmas.{follows}

-- ---- steps

-- p steps that are no more than needed for x aren't more than q steps that cover y, where y is no less than x
no_more_steps : (step p q x y : ℕ) → x ≤ y → y ≤ q * step → p * step < x + step → (p ≤ q) ⊎ (q + 1 ≤ p) → p ≤ q
no_more_steps step p q x y longer covers needed (inl order) = order
no_more_steps step p q x y longer covers needed (inr order) =
    absurd (omega (arith, longer, covers, needed, mul-le-mul_right {m = q + 1} {n = p} step order))

div_ceil_grows : (step x y : ℕ) → 0 < step → x ≤ y → div_ceil x step ≤ div_ceil y step
div_ceil_grows step x y positive longer =
    let order : (div_ceil x step ≤ div_ceil y step) ⊎ (div_ceil y step + 1 ≤ div_ceil x step) = grind arith in
    no_more_steps step (div_ceil x step) (div_ceil y step) x y longer (div_ceil_times y step positive).0 (div_ceil_times x step positive).1 order

steps_grow : (step x y : ℕ) → x ≤ y → div_ceil x step * step ≤ div_ceil y step * step
steps_grow zero x y longer = omega arith
steps_grow (suc step) x y longer = mul-le-mul_right (suc step) (div_ceil_grows (suc step) x y (omega arith) longer)

first_and_more : (first x y p q : ℕ) → x ≤ y → p ≤ q → (if x == 0 then 0 else first + p) ≤ (if y == 0 then 0 else first + q)
first_and_more first x y p q longer more = grind (arith, nat_tests)

-- no less is billed where more is charged for
pub billed_grows : (plan : Rates) (x y : ℕ) → x ≤ y → billed plan x ≤ billed plan y
unfolding billed
billed_grows plan x y longer = first_and_more plan.first x y _ _ longer (steps_grow plan.step (x - plan.first) (y - plan.first) (omega arith))

-- what is billed at the first rate is a part of what is billed at either
pub billed_part : (plan : Rates) (b a : ℕ) → billed_before plan b ≤ billed_in_all plan b a
billed_part plan b a = billed_grows plan (charged_before plan b) (charged_before plan b + charged_after plan b a) (omega arith)

-- ---- prices

-- more time, at no less cost, has no lower price
pub price_grows : (fee total total' cost cost' : ℕ) → total ≤ total' → cost ≤ cost'
    → (if total == 0 then 0 else fee + div_ceil cost 600) ≤ (if total' == 0 then 0 else fee + div_ceil cost' 600)
price_grows fee total total' cost cost' longer dearer = let more = div_ceil_grows 600 cost cost' (omega arith) dearer in grind (arith, nat_tests)

-- of one time before the switch, a longer one after it costs no less
cost_after : (plan : Rates) (b a a' : ℕ) → a ≤ a' → cost_of plan b a ≤ cost_of plan b a'
cost_after plan b a a' later =
    let more = billed_grows plan (charged_before plan b + charged_after plan b a) (charged_before plan b + charged_after plan b a') (omega arith) in
    omega (arith, mul-le-mul_right {m = billed_in_all plan b a - billed_before plan b} {n = billed_in_all plan b a' - billed_before plan b} (second_rate plan) (omega (arith, more)))

-- time before the switch alone is billed at the first rate
cost_unswitched : (plan : Rates) (b : ℕ) → cost_of plan b 0 ≡ billed_before plan b * plan.before
cost_unswitched plan b =
    let all : charged_before plan b + charged_after plan b 0 ≡ charged_before plan b = omega arith in
    let none : billed_before plan b - billed_before plan b ≡ 0 = omega arith in
    rw (all, none) (omega arith)

-- and a longer time before the switch, with any after it, costs no less than that
cost_before : (plan : Rates) (b b' a' : ℕ) → b ≤ b' → cost_of plan b 0 ≤ cost_of plan b' a'
cost_before plan b b' a' longer =
    let more = billed_grows plan (charged_before plan b) (charged_before plan b') (omega arith) in
    omega (arith, cost_unswitched plan b, mul-le-mul_right {m = billed_before plan b} {n = billed_before plan b'} plan.before more)

pub price_after : (plan : Rates) (b a a' : ℕ) → a ≤ a' → price_of plan b a ≤ price_of plan b a'
price_after plan b a a' later = price_grows plan.fee (b + a) (b + a') _ _ (omega arith) (cost_after plan b a a' later)

pub price_before : (plan : Rates) (b b' a' : ℕ) → b ≤ b' → price_of plan b 0 ≤ price_of plan b' a'
price_before plan b b' a' longer = price_grows plan.fee (b + 0) (b' + a') _ _ (omega arith) (cost_before plan b b' a' longer)

-- ---- lawful times

price_follows : (plan : Rates) (b b' a a' : ℕ) (switched : Bool) → b ≤ b' → a ≤ a' → (switched ≡ true → b' ≡ b) → (switched ≡ false → a ≡ 0)
    → price_of plan b a ≤ price_of plan b' a'
price_follows plan b b' a a' true longer later kept none = rw (kept refl) (price_after plan b a a' later)
price_follows plan b b' a a' false longer later kept none = rw (none refl) (price_before plan b b' a' longer)

-- lawful times cost no less than those before them, of which none lies after a switch that wasn't
pub price_at_grows : (plan : Rates) (old new : Elapsed) (granted : ℕ) → is_lawful plan old new granted ≡ true → (old.switched ≡ false → old.after ≡ 0)
    → price_at plan old ≤ price_at plan new
price_at_grows plan old new granted lawful unswitched =
    let facts = follows plan old new granted lawful in
    price_follows plan old.before new.before old.after new.after old.switched facts.before facts.after facts.kept unswitched
