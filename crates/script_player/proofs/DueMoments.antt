-- The moments that are put down with the calls stay those at which their timers are due.
use Rattle.std.proofs.Common.{◌≡◌, ◌==◌, ℕ, Bool, true, false, Option, Some, None, List, refl, ap, sym, ◌∙◌, arith, subst}
use Rattle.std.proofs.lemmas.Bool.{eqb-true}
use Rattle.std.proofs.lemmas.Bool.Decides.{nat_tests}
use Rattle.std.specs.BTreeMap.{BTreeMap, Updates, is_at}
use Rattle.std.specs.BTreeSet.{BTreeSet, UpdatesBy, contains}
use Rattle.std.specs.Ordering.{nat_cmp}
use Rattle.std.specs.Prelude.{MatchOption}
use Rattle.ssf_core.specs.Calls.{Stands, View}
use Rattle.ssf_core.specs.Happenings.{Happening}
use Rattle.script_player.specs.Dues.{AreDues, HasTimer, IsPutDown, Replaces, pair_cmp, ssf_of}
use Rattle.script_player.specs.Inputs.{IsNextTimer}
use Rattle.script_player.specs.Steps.{Sets}
use Rattle.script_player.proofs.InputLemmas.{same_next}
use Rattle.script_player.proofs.CallItems.{apart_at}

apart_second : (at call here other : ℕ) → (call == other) ≡ false → is_at (pair_cmp (at, call)) (here, other) ≡ false
apart_second at call here other apart = grind (arith, nat_tests)

apart_first : (at call here : ℕ) → (at == here) ≡ false → is_at (pair_cmp (at, call)) (here, call) ≡ false
apart_first at call here apart = grind (arith, nat_tests)

same_pair : (at call : ℕ) → is_at (pair_cmp (at, call)) (at, call) ≡ true
same_pair at call = grind (arith, nat_tests)

-- a moment was taken out, or put in, with a call, where there is one
abbrev pub Changed : Bool → ℕ → Option ℕ → BTreeSet (ℕ × ℕ) → BTreeSet (ℕ × ℕ) → Type 0
Changed there call moment before after = MatchOption moment (after ≡ before) (λ at. UpdatesBy pair_cmp (pair_cmp (at, call)) before after there)

others_stay : (there : Bool) (call : ℕ) (moment : Option ℕ) (before after : BTreeSet (ℕ × ℕ)) → Changed there call moment before after
    → (at other : ℕ) → (call == other) ≡ false → contains pair_cmp after (at, other) ≡ contains pair_cmp before (at, other)
others_stay there call None before after changed at other apart = rw changed refl
others_stay there call (Some moment) before after changed at other apart = changed.0 (at, other) ∙ rw (apart_second moment call at other apart) refl

put_in : (call : ℕ) (moment : Option ℕ) (before after : BTreeSet (ℕ × ℕ)) → Changed true call moment before after → (at : ℕ) → moment ≡ Some at
    → contains pair_cmp after (at, call) ≡ true
put_in call None before after changed at is = cc
put_in call (Some moment) before after changed at is =
    let same : moment ≡ at = cc in
    let P : ℕ → Type 0 = λ m. contains pair_cmp after (m, call) ≡ true in
    subst P same (changed.0 (moment, call) ∙ rw (same_pair moment call) refl)

was_in_by : (here : Bool) (call moment at : ℕ) (before after : BTreeSet (ℕ × ℕ)) → (moment == at) ≡ here → UpdatesBy pair_cmp (pair_cmp (moment, call)) before after true
    → contains pair_cmp after (at, call) ≡ true → (Some moment ≡ Some at → ⊥) → contains pair_cmp before (at, call) ≡ true
was_in_by true call moment at before after is changed has not = absurd (not (ap (λ (m : ℕ). Some m) (eqb-true moment at is)))
was_in_by false call moment at before after is changed has not = sym (changed.0 (at, call) ∙ rw (apart_first moment call at is) refl) ∙ has

was_in : (call : ℕ) (moment : Option ℕ) (before after : BTreeSet (ℕ × ℕ)) → Changed true call moment before after → (at : ℕ) → contains pair_cmp after (at, call) ≡ true
    → (moment ≡ Some at → ⊥) → contains pair_cmp before (at, call) ≡ true
was_in call None before after changed at has not = rw (← changed) has
was_in call (Some moment) before after changed at has not = was_in_by _ call moment at before after refl changed has not

stays_in_by : (here : Bool) (call moment at : ℕ) (before after : BTreeSet (ℕ × ℕ)) → (moment == at) ≡ here → UpdatesBy pair_cmp (pair_cmp (moment, call)) before after false
    → contains pair_cmp after (at, call) ≡ true → (contains pair_cmp before (at, call) ≡ true) × (Some moment ≡ Some at → ⊥)
stays_in_by true call moment at before after is changed has =
    let P : ℕ → Type 0 = λ m. contains pair_cmp after (m, call) ≡ false in
    let gone : contains pair_cmp after (at, call) ≡ false = subst P (eqb-true moment at is) (changed.0 (moment, call) ∙ rw (same_pair moment call) refl) in
    absurd (cc)
stays_in_by false call moment at before after is changed has = (sym (changed.0 (at, call) ∙ rw (apart_first moment call at is) refl) ∙ has, λ same. grind (arith, nat_tests))

stays_in : (call : ℕ) (moment : Option ℕ) (before after : BTreeSet (ℕ × ℕ)) → Changed false call moment before after → (at : ℕ) → contains pair_cmp after (at, call) ≡ true
    → (contains pair_cmp before (at, call) ≡ true) × (moment ≡ Some at → ⊥)
stays_in call None before after changed at has = (rw (← changed) has, λ same. cc)
stays_in call (Some moment) before after changed at has = stays_in_by _ call moment at before after refl changed has

-- one moment is taken out, and then another is put in
pub replaces : (call : ℕ) (old new : Option ℕ) (before between after : BTreeSet (ℕ × ℕ)) → Changed false call old before between → Changed true call new between after
    → Replaces before after call old new
replaces call old new before between after out in' = record {
  others = λ at other apart. others_stay true call new between after in' at other apart ∙ others_stay false call old before between out at other apart;
  added = put_in call new between after in';
  only = λ at has not. stays_in call old before between out at (was_in call new between after in' at has not);
}

put_down_at : (call : ℕ) (moment : Option ℕ) (dues : BTreeSet (ℕ × ℕ)) (at : ℕ) → moment ≡ Some at → IsPutDown dues call moment → contains pair_cmp dues (at, call) ≡ true
put_down_at call None dues at is put = cc
put_down_at call (Some moment) dues at is put =
    let same : moment ≡ at = cc in
    let P : ℕ → Type 0 = λ m. contains pair_cmp dues (m, call) ≡ true in
    subst P same put

-- the moment that is put down stays
pub stays : (call : ℕ) (old new : Option ℕ) (dues : BTreeSet (ℕ × ℕ)) → old ≡ new → IsPutDown dues call old → Replaces dues dues call old new
stays call old new dues same put =
    record { others = λ at other apart. refl; added = λ at is. put_down_at call old dues at (same ∙ is) put; only = λ at has not. (has, λ was. not (sym same ∙ was)) }

-- the moment at which the next timer of a gsmSSF is due is put down
pub put_down : (ssfs : List (ℕ × View)) (dues : BTreeSet (ℕ × ℕ)) (call : ℕ) (view : View) (moment : Option ℕ) → AreDues ssfs dues → ssf_of ssfs call ≡ Some view → IsNextTimer view moment
    → IsPutDown dues call moment
put_down ssfs dues call view None are is next = tt
put_down ssfs dues call view (Some at) are is next = are.each at call (record { view = view; is = is; next = next })

-- ---- the moments of the timers

-- a map in which a call has another gsmSSF now
pub sets_by : (before after : BTreeMap ℕ View) (call : ℕ) (view : View) → Updates nat_cmp before after call (Some view) → Sets before.entries after.entries call view
sets_by before after call view updates = record { own = updates.1; others = λ other apart. updates.2 other (apart_at call other apart) }

timer_stays : (before after : List (ℕ × View)) (call other at : ℕ) (view : View) → Sets before after call view → (call == other) ≡ false → HasTimer before other at → HasTimer after other at
timer_stays before after call other at view sets apart timer = record { view = timer.view; is = sets.others other apart ∙ timer.is; next = timer.next }

pub timer_was : (before after : List (ℕ × View)) (call other at : ℕ) (view : View) → Sets before after call view → (call == other) ≡ false → HasTimer after other at → HasTimer before other at
timer_was before after call other at view sets apart timer = record { view = timer.view; is = sym (sets.others other apart) ∙ timer.is; next = timer.next }

-- the timer of a call's gsmSSF is that of this one
pub timer_of : (ssfs : List (ℕ × View)) (call at : ℕ) (view : View) → ssf_of ssfs call ≡ Some view → HasTimer ssfs call at → IsNextTimer view (Some at)
timer_of ssfs call at view is timer =
    let same : timer.view ≡ view = cc (is, timer.is) in
    let P : View → Type 0 = λ v. IsNextTimer v (Some at) in
    subst P same timer.next

-- either this moment is put in, or it isn't
held_own : (here : Bool) (after : List (ℕ × View)) (call at moment : ℕ) (view : View) → (moment == at) ≡ here → ssf_of after call ≡ Some view → IsNextTimer view (Some moment)
    → ((Some moment ≡ Some at → ⊥) → ⊥) → HasTimer after call at
held_own true after call at moment view is own next other =
    let P : ℕ → Type 0 = λ m. IsNextTimer view (Some m) in
    record { view = view; is = own; next = subst P (eqb-true moment at is) next }
held_own false after call at moment view is own next other = absurd (other (λ same. grind (arith, nat_tests)))

held_by : (before after : List (ℕ × View)) (dues kept : BTreeSet (ℕ × ℕ)) (call at : ℕ) (old new : Option ℕ) (view : View) → AreDues before dues → Replaces dues kept call old new
    → ssf_of after call ≡ Some view → IsNextTimer view new → (HasTimer before call at → old ≡ Some at) → contains pair_cmp kept (at, call) ≡ true → HasTimer after call at
held_by before after dues kept call at old None view are replaces own next was has =
    let only = replaces.only at has (λ none. cc) in
    absurd (only.1 (was (are.held at call only.0)))
held_by before after dues kept call at old (Some moment) view are replaces own next was has =
    held_own _ after call at moment view refl own next (λ apart. let only = replaces.only at has apart in only.1 (was (are.held at call only.0)))

held_on : (here : Bool) (before after : List (ℕ × View)) (dues kept : BTreeSet (ℕ × ℕ)) (call other at : ℕ) (old new : Option ℕ) (view : View) → (call == other) ≡ here → AreDues before dues
    → Replaces dues kept call old new → Sets before after call view → IsNextTimer view new → ((moment : ℕ) → HasTimer before call moment → old ≡ Some moment)
    → contains pair_cmp kept (at, other) ≡ true → HasTimer after other at
held_on true before after dues kept call other at old new view is are replaces sets next was has =
    let P : ℕ → Type 0 = λ c. HasTimer after c at in
    let Q : ℕ → Type 0 = λ c. contains pair_cmp kept (at, c) ≡ true in
    subst P (eqb-true call other is) (held_by before after dues kept call at old new view are replaces sets.own next (was at) (subst Q (sym (eqb-true call other is)) has))
held_on false before after dues kept call other at old new view is are replaces sets next was has =
    timer_stays before after call other at view sets is (are.held at other (sym (replaces.others at other is) ∙ has))

each_on : (here : Bool) (before after : List (ℕ × View)) (dues kept : BTreeSet (ℕ × ℕ)) (call other at : ℕ) (old new : Option ℕ) (view : View) (trace : List Happening) → (call == other) ≡ here
    → AreDues before dues → Replaces dues kept call old new → Sets before after call view → IsNextTimer view new → Stands view trace → HasTimer after other at
    → contains pair_cmp kept (at, other) ≡ true
each_on true before after dues kept call other at old new view trace is are replaces sets next stands timer =
    let P : ℕ → Type 0 = λ c. HasTimer after c at in
    let Q : ℕ → Type 0 = λ c. contains pair_cmp kept (at, c) ≡ true in
    let own : IsNextTimer view (Some at) = timer_of after call at view sets.own (subst P (sym (eqb-true call other is)) timer) in
    subst Q (eqb-true call other is) (replaces.added at (same_next view trace new (Some at) stands next own))
each_on false before after dues kept call other at old new view trace is are replaces sets next stands timer =
    replaces.others at other is ∙ are.each at other (timer_was before after call other at view sets is timer)

-- the gsmSSF of a call changes, and its moment with it
pub dues_on : (before after : List (ℕ × View)) (dues kept : BTreeSet (ℕ × ℕ)) (call : ℕ) (old new : Option ℕ) (view : View) (trace : List Happening) → AreDues before dues
    → Replaces dues kept call old new → Sets before after call view → IsNextTimer view new → Stands view trace → ((moment : ℕ) → HasTimer before call moment → old ≡ Some moment)
    → AreDues after kept
dues_on before after dues kept call old new view trace are replaces sets next stands was = record {
  held = λ at other has. held_on _ before after dues kept call other at old new view refl are replaces sets next was has;
  each = λ at other timer. each_on _ before after dues kept call other at old new view trace refl are replaces sets next stands timer;
}
