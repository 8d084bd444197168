-- The calls of the moments that are put down up to now are those with a timer that is due by now.
use Rattle.std.proofs.Common.{◌≡◌, ◌≤◌, ◌+◌, ℕ, Bool, true, false, List, [], ◌∷◌, ◌++◌, ◌||◌, refl, sym, ◌∙◌, arith, subst}
use Rattle.std.proofs.lemmas.Bool.Decides.{nat_tests}
use Rattle.std.specs.BTreeMap.{is_at}
use Rattle.std.specs.BTreeMap.Range.{range_contains}
use Rattle.std.specs.BTreeSet.{BTreeSet, Updates, contains}
use Rattle.std.specs.List.{filter, list_any}
use Rattle.std.specs.Ordering.{nat_cmp}
use Rattle.std.specs.Prelude.{cond}
use Rattle.std.specs.declared.ops.Bound.TheVariants.{Excluded, Unbounded}
use Rattle.std.proofs.lemmas.Bool.{or_right}
use Rattle.ssf_core.specs.Calls.{View}
use Rattle.script_player.specs.Dues.{AreDueBy, AreDues, IsDueBy, is_among, pair_cmp}

-- whether a pair is of this call
abbrev is_of : ℕ → ℕ × ℕ → Bool
is_of call due = is_at (nat_cmp call) due.1

-- whether a pair's moment lies up to now
abbrev is_by : ℕ → ℕ × ℕ → Bool
is_by now due = range_contains pair_cmp Unbounded (Excluded (now + 1, 0)) due

same_either : (call other : ℕ) → is_at (nat_cmp other) call ≡ is_at (nat_cmp call) other
same_either call other = grind (arith, nat_tests)

or_false : (here : Bool) → (here || false) ≡ here
or_false true = refl
or_false false = refl

or_cond : (here was : Bool) → cond here true was ≡ (was || here)
or_cond true true = refl
or_cond true false = refl
or_cond false true = refl
or_cond false false = refl

or_assoc : (one two three : Bool) → (one || (two || three)) ≡ ((one || two) || three)
or_assoc true two three = refl
or_assoc false two three = refl

any_more : (call : ℕ) (done : List (ℕ × ℕ)) (due : ℕ × ℕ) → list_any (is_of call) (done ++ due ∷ []) ≡ (list_any (is_of call) done || is_of call due)
any_more call [] due = or_false (is_of call due)
any_more call (first ∷ done) due = rw (any_more call done due) (or_assoc (is_of call first) (list_any (is_of call) done) (is_of call due))

-- one more pair's call is put in
pub listed_more : (before after : BTreeSet ℕ) (done : List (ℕ × ℕ)) (due : ℕ × ℕ) → Updates nat_cmp before after due.1 true
    → ((call : ℕ) → is_among before.keys call ≡ list_any (is_of call) done) → (call : ℕ) → is_among after.keys call ≡ list_any (is_of call) (done ++ due ∷ [])
listed_more before after done due updates listed call =
    updates.0 call ∙ or_cond (is_at (nat_cmp due.1) call) (contains nat_cmp before call) ∙ rw (listed call, same_either call due.1) (sym (any_more call done due))

-- a moment that is found for a call
abbrev IsFound : ℕ → ℕ → List (ℕ × ℕ) → Type 0
IsFound call now keys = (at : ℕ) × ((at ≤ now) × (list_any (is_at (pair_cmp (at, call))) keys ≡ true))

found_later : (call now : ℕ) (key : ℕ × ℕ) (keys : List (ℕ × ℕ)) → IsFound call now keys → IsFound call now (key ∷ keys)
found_later call now key keys found = (found.0, (found.1.0, or_right (is_at (pair_cmp (found.0, call)) key) (list_any (is_at (pair_cmp (found.0, call))) keys) found.1.1))

is_here : (call at other : ℕ) → is_at (nat_cmp call) other ≡ true → is_at (pair_cmp (at, call)) (at, other) ≡ true
is_here call at other is = grind (arith, nat_tests)

by_now : (now at call : ℕ) → is_by now (at, call) ≡ true → at ≤ now
by_now now at call is = grind (arith, nat_tests)

now_by : (now at call : ℕ) → at ≤ now → is_by now (at, call) ≡ true
now_by now at call order = grind (arith, nat_tests)

is_own : (at call here other : ℕ) → is_at (pair_cmp (at, call)) (here, other) ≡ true → at ≡ here
is_own at call here other is = grind (arith, nat_tests)

of_own : (at call here other : ℕ) → is_at (pair_cmp (at, call)) (here, other) ≡ true → is_at (nat_cmp call) other ≡ true
of_own at call here other is = grind (arith, nat_tests)

found_step : (by here : Bool) (call now : ℕ) (key : ℕ × ℕ) (keys : List (ℕ × ℕ)) → is_by now key ≡ by → is_of call key ≡ here
    → (list_any (is_of call) (filter (is_by now) keys) ≡ true → IsFound call now keys) → list_any (is_of call) (filter (is_by now) (key ∷ keys)) ≡ true → IsFound call now (key ∷ keys)
found_step true true call now key keys by here rest is =
    (key.0, (by_now now key.0 key.1 by, rw (is_here call key.0 key.1 here) refl))
found_step true false call now key keys by here rest is = found_later call now key keys (rest (rw (by, here) at is))
found_step false here call now key keys by is_here' rest is = found_later call now key keys (rest (rw by at is))

found : (call now : ℕ) (keys : List (ℕ × ℕ)) → list_any (is_of call) (filter (is_by now) keys) ≡ true → IsFound call now keys
found call now [] is = absurd (cc)
found call now (key ∷ keys) is = found_step _ _ call now key keys refl refl (found call now keys) is

later_of : (by : Bool) (call now : ℕ) (key : ℕ × ℕ) (keys : List (ℕ × ℕ)) → is_by now key ≡ by → list_any (is_of call) (filter (is_by now) keys) ≡ true
    → list_any (is_of call) (filter (is_by now) (key ∷ keys)) ≡ true
later_of true call now key keys by is = rw by (or_right (is_of call key) (list_any (is_of call) (filter (is_by now) keys)) is)
later_of false call now key keys by is = rw by is

lost_step : (here : Bool) (call now at : ℕ) (key : ℕ × ℕ) (keys : List (ℕ × ℕ)) → at ≤ now → is_at (pair_cmp (at, call)) key ≡ here
    → (list_any (is_at (pair_cmp (at, call))) keys ≡ true → list_any (is_of call) (filter (is_by now) keys) ≡ true) → list_any (is_at (pair_cmp (at, call))) (key ∷ keys) ≡ true
    → list_any (is_of call) (filter (is_by now) (key ∷ keys)) ≡ true
lost_step true call now at key keys order here rest is =
    let same : at ≡ key.0 = is_own at call key.0 key.1 here in
    let early : key.0 ≤ now = omega arith in
    rw (now_by now key.0 key.1 early, of_own at call key.0 key.1 here) refl
lost_step false call now at key keys order here rest is = later_of _ call now key keys refl (rest (rw here at is))

lost : (call now at : ℕ) (keys : List (ℕ × ℕ)) → at ≤ now → list_any (is_at (pair_cmp (at, call))) keys ≡ true → list_any (is_of call) (filter (is_by now) keys) ≡ true
lost call now at [] order is = absurd (cc)
lost call now at (key ∷ keys) order is = lost_step _ call now at key keys order refl (lost call now at keys order) is

due_of : (ssfs : List (ℕ × View)) (dues : BTreeSet (ℕ × ℕ)) (now call : ℕ) → AreDues ssfs dues → IsFound call now dues.keys → IsDueBy ssfs now call
due_of ssfs dues now call are at = (at.0, (are.held at.0 call at.1.1, at.1.0))

-- the calls of the pairs up to now
pub listed : (ssfs : List (ℕ × View)) (dues : BTreeSet (ℕ × ℕ)) (now : ℕ) (pairs : List (ℕ × ℕ)) (calls : List ℕ) → AreDues ssfs dues → pairs ≡ filter (is_by now) dues.keys
    → ((call : ℕ) → is_among calls call ≡ list_any (is_of call) pairs) → AreDueBy ssfs now calls
listed ssfs dues now pairs calls are within same =
    let P : List (ℕ × ℕ) → Type 0 = λ ps. (call : ℕ) → is_among calls call ≡ list_any (is_of call) ps in
    let all = subst P within same in
    record {
      due = λ call is. due_of ssfs dues now call are (found call now dues.keys (sym (all call) ∙ is));
      all = λ call due. all call ∙ lost call now due.0 dues.keys due.1.1 (are.each due.0 call due.1.0);
    }
