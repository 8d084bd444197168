-- What an entry moves: it changes what is known of its own call alone, and so the sums over all calls.
use Rattle.std.proofs.Common.{◌≡◌, ℕ, ◌+◌, ◌≤◌, Bool, true, false, Option, Some, None, List, [], ◌∷◌, refl, sym, ap, ◌∙◌, arith, subst}
use Rattle.std.specs.Prelude.{◌==◌, ◌&&◌, if◌then◌else◌, not, is_some, sum_by}
use Rattle.std.proofs.lemmas.Bool.{eqb-true, eq-eqb}
use Rattle.std.proofs.lemmas.Bool.Decides.{nat_tests}
use Rattle.std.proofs.lemmas.List.Sums.{sum_by-cons}
use Rattle.price_core.specs.Rates.{Rates}
use Rattle.account_core.specs.Asked.{call_of}
use Rattle.account_core.specs.Available.{begins_call, calls, is_grant}
use Rattle.account_core.specs.Entries.{EntryData}
use Rattle.account_core.specs.Known.{EntryDeed, Ends, Forfeits, Grants, CallFacts, Reports, Rests, deed, deed_of, known, known_after}
use Rattle.account_core.proofs.Sums.{at_most_sum, sum_absent, sum_once, times_in}

-- the call of an entry, and what the entry does to it
abbrev pub its_call : EntryData → ℕ
its_call entry = call_of entry.asked

abbrev pub its_deed : EntryData → EntryDeed
its_deed entry = deed_of entry.asked entry.reply

pub deed_here : (entry : EntryData) → deed (its_call entry) entry ≡ its_deed entry
unfolding deed
deed_here entry = rw (eq-eqb (its_call entry) (its_call entry) refl) refl

pub deed_apart : (call : ℕ) (entry : EntryData) → (its_call entry == call) ≡ false → deed call entry ≡ Rests
unfolding deed
deed_apart call entry apart = rw apart refl

pub known_here : (h : List EntryData) (entry : EntryData) → known (its_call entry) (entry ∷ h) ≡ known_after (known (its_call entry) h) (its_deed entry)
known_here h entry = ap (known_after (known (its_call entry) h)) (deed_here entry)

pub known_apart : (h : List EntryData) (entry : EntryData) (call : ℕ) → (its_call entry == call) ≡ false → known call (entry ∷ h) ≡ known call h
known_apart h entry call apart = ap (known_after (known call h)) (deed_apart call entry apart)

-- ---- each call once

is_begun : CallFacts → ℕ
is_begun call = if is_some call.plan then 1 else 0

count_begun : (here begins : Bool) (n : ℕ) → ℕ
count_begun here begins n = if begins then (if here then 1 + n else n) else n

times_in_if : (begins : Bool) (c d : ℕ) (ds : List ℕ) → times_in c (if begins then d ∷ ds else ds) ≡ count_begun (c == d) begins (times_in c ds)
unfolding count_begun
times_in_if true c d ds = refl
times_in_if false c d ds = refl

some_once : (plan : Option Rates) (n : ℕ) → n ≡ (if is_some plan then 1 else 0) → (if not (is_some plan) then 1 + n else n) ≡ 1
some_once None n is = omega (arith, is)
some_once (Some plan) n is = is

once_here : (d : EntryDeed) (call : CallFacts) (n : ℕ) → n ≡ is_begun call → count_begun true (is_grant d && not (is_some call.plan)) n ≡ is_begun (known_after call d)
unfolding count_begun is_begun
once_here (Grants plan units) call n is = some_once call.plan n is
once_here (Reports info) call n is = is
once_here Forfeits call n is = is
once_here (Ends paid) call n is = is
once_here Rests call n is = is

apart_same : (begins : Bool) (n : ℕ) → count_begun false begins n ≡ n
unfolding count_begun
apart_same true n = refl
apart_same false n = refl

eq_apart : (c d : ℕ) → (c == d) ≡ false → (d == c) ≡ false
eq_apart c d apart = grind (arith, nat_tests)

once_cases : (h : List EntryData) (entry : EntryData) (c : ℕ) (here : Bool) → (c == its_call entry) ≡ here → times_in c (calls h) ≡ is_begun (known c h)
    → count_begun here (begins_call entry h) (times_in c (calls h)) ≡ is_begun (known c (entry ∷ h))
once_cases h entry c true here is =
    let same : its_call entry ≡ c = sym (eqb-true c (its_call entry) here) in
    let P : ℕ → Type 0 = λ d. times_in d (calls h) ≡ is_begun (known d h) → count_begun true (begins_call entry h) (times_in d (calls h)) ≡ is_begun (known d (entry ∷ h)) in
    subst P same (λ known_is. rw (known_here h entry) (once_here (its_deed entry) (known (its_call entry) h) (times_in (its_call entry) (calls h)) known_is)) is
once_cases h entry c false apart is =
    rw (known_apart h entry c (eq_apart c (its_call entry) apart)) (apart_same (begins_call entry h) (times_in c (calls h)) ∙ is)

-- a call is in the list of calls once, if it was granted anything
pub calls_once : (h : List EntryData) (c : ℕ) → times_in c (calls h) ≡ (if is_some (known c h).plan then 1 else 0)
unfolding is_begun
calls_once [] c = refl
calls_once (entry ∷ h) c =
    times_in_if (begins_call entry h) c (its_call entry) (calls h)
    ∙ once_cases h entry c (c == its_call entry) refl (calls_once h c)

-- ---- sums over all calls

sum_cases : (grant begun : Bool) (G F g f n : ℕ) → n ≡ (if begun then 1 else 0) → (n ≡ 0 → G ≡ F) → (n ≡ 1 → G + f ≡ F + g)
    → (begun ≡ false → f ≡ 0) → (grant ≡ false → begun ≡ false → g ≡ 0)
    → (if grant && not begun then g + G else G) + f ≡ F + g
sum_cases true true G F g f n is none once old new = once is
sum_cases true false G F g f n is none once old new = omega (arith, none is, old refl)
sum_cases false true G F g f n is none once old new = once is
sum_cases false false G F g f n is none once old new = omega (arith, none is, old refl, new refl refl)

pub sum_if : (begins : Bool) (g : ℕ → ℕ) (c : ℕ) (cs : List ℕ) → sum_by g (if begins then c ∷ cs else cs) ≡ (if begins then g c + sum_by g cs else sum_by g cs)
sum_if true g c cs = sum_by-cons g c cs
sum_if false g c cs = refl

none_is : (plan : Option Rates) → is_some plan ≡ false → plan ≡ None
none_is None is = refl
none_is (Some plan) is = cc

still_none : (call : CallFacts) (d : EntryDeed) → is_grant d ≡ false → is_some call.plan ≡ false → (known_after call d).plan ≡ None
still_none call (Grants plan units) rests none = cc
still_none call (Reports info) rests none = none_is call.plan none
still_none call Forfeits rests none = none_is call.plan none
still_none call (Ends paid) rests none = none_is call.plan none
still_none call Rests rests none = none_is call.plan none

at_most_cases : (begun : Bool) (n total value : ℕ) → n ≡ (if begun then 1 else 0) → (n ≡ 1 → value ≤ total) → (begun ≡ false → value ≡ 0) → value ≤ total
at_most_cases true n total value is once none = once is
at_most_cases false n total value is once none = omega (arith, none refl)

module _ (value : CallFacts → ℕ) (nothing : (call : CallFacts) → call.plan ≡ None → value call ≡ 0) where
  -- the sum moves as the entry's own call does
  pub sum_moves : (h : List EntryData) (entry : EntryData)
      → sum_by (λ call. value (known call (entry ∷ h))) (calls (entry ∷ h)) + value (known (its_call entry) h)
      ≡ sum_by (λ call. value (known call h)) (calls h) + value (known_after (known (its_call entry) h) (its_deed entry))
  sum_moves h entry =
      let c : ℕ = its_call entry in
      let old : ℕ → ℕ = λ call. value (known call h) in
      let new : ℕ → ℕ = λ call. value (known call (entry ∷ h)) in
      let apart : (d : ℕ) → (c == d) ≡ false → new d ≡ old d = λ d off. ap value (known_apart h entry d off) in
      let here : new c ≡ value (known_after (known c h) (its_deed entry)) = ap value (known_here h entry) in
      let n : ℕ = times_in c (calls h) in
      let moved = sum_cases (is_grant (its_deed entry)) (is_some (known c h).plan) (sum_by new (calls h)) (sum_by old (calls h)) (new c) (old c) n (calls_once h c)
      (sum_absent old new c apart (calls h)) (sum_once old new c apart (calls h))
      (λ none. nothing (known c h) (none_is (known c h).plan none))
      (λ rests none. here ∙ nothing (known_after (known c h) (its_deed entry)) (still_none (known c h) (its_deed entry) rests none)) in
      rw (sum_if (begins_call entry h) new c (calls h), ← here) moved

  at_most_of : (call : CallFacts) (n total : ℕ) → n ≡ (if is_some call.plan then 1 else 0) → (n ≡ 1 → value call ≤ total) → value call ≤ total
  at_most_of call n total is once = at_most_cases (is_some call.plan) n total (value call) is once (λ none. nothing call (none_is call.plan none))

  -- what a call has is at most the sum
  pub at_most_all : (h : List EntryData) (c : ℕ) → value (known c h) ≤ sum_by (λ call. value (known call h)) (calls h)
  at_most_all h c =
      at_most_of (known c h) (times_in c (calls h)) (sum_by (λ call. value (known call h)) (calls h)) (calls_once h c)
      (at_most_sum (λ call. value (known call h)) c (calls h))
