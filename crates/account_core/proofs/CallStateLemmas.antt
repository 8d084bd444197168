-- What a sound call has paid, and what is held for it.
use Rattle.std.proofs.Common.{◌≡◌, ℕ, ◌≤◌, Bool, true, false, Option, Some, None, refl, sym, arith, subst}
use Rattle.std.specs.Prelude.{if◌then◌else◌, unwrap_or}
use Rattle.price_core.specs.Afford.{units_afforded}
use Rattle.price_core.specs.Ceiling.{ceiling_of}
use Rattle.price_core.specs.Laws.{AffordedAreCovered, CeilingIsNotPassed}
use Rattle.price_core.specs.Price.{price_at}
use Rattle.price_core.specs.Rates.{Rates}
use Rattle.price_core.specs.Times.{Elapsed}
use Rattle.account_core.specs.Kept.{known_of}
use Rattle.account_core.specs.Known.{CallFacts, paid_if_granted, paid_of, price_under, taken_of, taken_under}
use Rattle.account_core.specs.Sound.{IsGrantedCall, IsSound, IsSoundUnder}
use Rattle.account_core.specs.declared.call_state.CallState.{CallState}
use Rattle.account_core.specs.declared.call_state.CallState.TheVariants.{Fresh, Granted, Over, Reported}

-- the price of its times is at most its top
pub price_within : CeilingIsNotPassed → (plan : Rates) (call : CallFacts) → IsGrantedCall plan call → price_at plan call.times ≤ call.top
price_within not_passed plan call held = omega (arith, not_passed plan held.base held.units call.times held.comes, held.top_is)

paid_by_case : (forfeited returned : Bool) (price top : ℕ) → price ≤ top
    → (if forfeited then top else price) ≤ (if returned then (if forfeited then top else price) else top)
paid_by_case true true price top le = omega arith
paid_by_case true false price top le = omega arith
paid_by_case false true price top le = omega arith
paid_by_case false false price top le = le

paid_taken_under : CeilingIsNotPassed → (plan : Option Rates) (call : CallFacts) → call.plan ≡ plan → IsSoundUnder plan call → paid_of call ≤ taken_under plan call
paid_taken_under not_passed None call is sound = let P : CallFacts → Type 0 = λ k. paid_of k ≤ 0 in subst P (sym sound) (omega arith)
paid_taken_under not_passed (Some plan) call is sound =
    let here : price_under call.plan call.times ≤ call.top = rw is (price_within not_passed plan call sound) in
    paid_by_case call.forfeited call.returned (price_under call.plan call.times) call.top here

-- no call has paid more than it takes
pub paid_within : CeilingIsNotPassed → (call : CallFacts) → IsSound call → paid_of call ≤ taken_of call
unfolding taken_of
paid_within not_passed call sound = paid_taken_under not_passed call.plan call refl sound

-- what is found as afforded is covered, if it isn't nothing
pub afforded_covered : AffordedAreCovered → (plan : Rates) (times : Elapsed) (wanted money units ceiling : ℕ)
    → units ≡ units_afforded plan times wanted money → ceiling ≡ ceiling_of plan times units → (units ≡ 0 → ⊥) → ceiling ≤ money
afforded_covered covered plan times wanted money units ceiling found dearest some =
    let P : ℕ → Type 0 = λ n. (n ≡ 0 → ⊥) → ceiling_of plan times n ≤ money in
    omega (arith, dearest, subst P (sym found) (λ more. covered plan times wanted money (omega (arith, more))) some)

-- what a call has paid where it was granted anything is what it has paid, and nothing else
pub paid_or_nothing : (state : CallState) → unwrap_or (paid_if_granted (known_of state)) 0 ≡ paid_of (known_of state)
paid_or_nothing Fresh = refl
paid_or_nothing (Granted held) = refl
paid_or_nothing (Reported held) = refl
paid_or_nothing (Over held) = refl
