-- The timers run that are due, call by call.
use Rattle.std.proofs.Common.{◌≡◌, ◌==◌, ◌<◌, ◌≤◌, ℕ, Bool, true, false, Option, Some, None, List, [], ◌∷◌, ◌++◌, inl, inr, refl, sym, ap, ◌∙◌, append_assoc, append-nil, arith, subst}
use Rattle.std.proofs.lemmas.Bool.{cases_lt, eqb-true}
use Rattle.std.proofs.lemmas.Bool.Decides.{nat_tests}
use Rattle.std.specs.BTreeMap.{is_at}
use Rattle.std.specs.List.Sorted.{IsStrictlySortedBy}
use Rattle.std.specs.Ordering.{nat_cmp}
use Rattle.std.specs.Prelude.{MatchOption}
use Rattle.ssf_core.specs.Calls.{View}
use Rattle.script_player.specs.Chains.{Chain}
use Rattle.script_player.specs.Dues.{AreDueBy, HasTimer, is_among, ssf_of}
use Rattle.script_player.specs.Networks.{Grows, Shown}
use Rattle.script_player.specs.Steps.{FeedsSsf, RunsTimers, Waits}
use Rattle.script_player.specs.declared.network.Input.{Input}
use Rattle.script_player.specs.declared.network.Input.TheVariants as what
use Rattle.script_player.proofs.ChainLemmas.{chain_more}
use Rattle.script_player.proofs.DueMoments.{timer_was}
use Rattle.script_player.proofs.CallItems.{grows_not, grows_on}

-- time has passed for the first of these calls: each timer that is due is of a call that is left
pub record HaveWaited (now : ℕ) (before after : Shown) (all left : List ℕ) : Type 0 where
  pub grows : Grows before after
  pub done : List ℕ
  pub split : done ++ left ≡ all
  pub waits : Chain (Waits now) before done after
  pub left_due : before.whole ≡ true → (call at : ℕ) → HasTimer after.ssfs call at → at ≤ now → is_among left call ≡ true

pub waited_none : (now : ℕ) (before : Shown) (all left : List ℕ) → left ≡ all → (before.whole ≡ true → AreDueBy before.ssfs now all) → HaveWaited now before before all left
waited_none now before all left same are = record {
  grows = grows_not before;
  done = [];
  split = same;
  waits = refl;
  left_due = λ whole call at timer order.
      let P : List ℕ → Type 0 = λ calls. is_among calls call ≡ true in
      subst P (sym same) ((are whole).all call (at, (timer, order)));
}

timer_was_by : (found : Option View) (now call other at : ℕ) (input : Input) (before after : Shown) → MatchOption found (after ≡ before) (FeedsSsf before after now call input)
    → (call == other) ≡ false → HasTimer after.ssfs other at → HasTimer before.ssfs other at
timer_was_by None now call other at input before after gives apart timer =
    let P : Shown → Type 0 = λ shown. HasTimer shown.ssfs other at in
    subst P gives timer
timer_was_by (Some view) now call other at input before after gives apart timer = timer_was before.ssfs after.ssfs call other at gives.new gives.sends.sets apart timer

among_rest : (call other : ℕ) (left : List ℕ) → (call == other) ≡ false → is_among (call ∷ left) other ≡ true → is_among left other ≡ true
among_rest call other left apart is =
    let not : is_at (nat_cmp other) call ≡ false = grind (arith, nat_tests) in
    rw not at is

left_by : (here : Bool) (now call other at : ℕ) (before after : Shown) (left : List ℕ) → (call == other) ≡ here → Waits now before call after
    → ((at : ℕ) → HasTimer after.ssfs call at → now < at) → (HasTimer before.ssfs other at → is_among (call ∷ left) other ≡ true) → HasTimer after.ssfs other at → at ≤ now
    → is_among left other ≡ true
left_by true now call other at before after left is waits later was timer order =
    let P : ℕ → Type 0 = λ c. HasTimer after.ssfs c at in
    let late : now < at = later at (subst P (sym (eqb-true call other is)) timer) in
    absurd (omega arith)
left_by false now call other at before after left is waits later was timer order =
    among_rest call other left is (was (timer_was_by (ssf_of before.ssfs call) now call other at what.Wait before after waits is timer))

pub waited_more : (now call : ℕ) (before between after : Shown) (all was left : List ℕ) → HaveWaited now before between all was → was ≡ call ∷ left → Grows between after
    → Waits now between call after → ((at : ℕ) → HasTimer after.ssfs call at → now < at) → HaveWaited now before after all left
waited_more now call before between after all was left have step grows waits later = record {
  grows = grows_on before between after have.grows grows;
  done = have.done ++ call ∷ [];
  split = append_assoc have.done (call ∷ []) left ∙ ap (λ (rest : List ℕ). have.done ++ rest) (sym step) ∙ have.split;
  waits = chain_more (Waits now) before between after have.done call have.waits waits;
  left_due = λ whole other at timer order.
      let P : List ℕ → Type 0 = λ calls. is_among calls other ≡ true in
      left_by _ now call other at between after left refl waits later (λ old. subst P step (have.left_due whole other at old order)) timer order;
}

pub runs_timers : (now : ℕ) (before after : Shown) (all left : List ℕ) → HaveWaited now before after all left → left ≡ [] → IsStrictlySortedBy nat_cmp all
    → (before.whole ≡ true → AreDueBy before.ssfs now all) → before.whole ≡ true → RunsTimers now before after
runs_timers now before after all left have none ascending are whole =
    let C : List ℕ → Type 0 = λ calls. Chain (Waits now) before calls after in
    let P : ℕ → List ℕ → Type 0 = λ call calls. is_among calls call ≡ true in
    record {
      calls = all;
      ascending = ascending;
      due = are whole;
      waits = subst C (sym (append-nil have.done) ∙ ap (λ (rest : List ℕ). have.done ++ rest) (sym none) ∙ have.split) have.waits;
      later = λ call at timer.
          elim (cases_lt now at) [
            | inl late ↦ late
            | inr early ↦ let among : false ≡ true = subst (P call) none (have.left_due whole call at timer early) in absurd (cc)
          ];
    }
