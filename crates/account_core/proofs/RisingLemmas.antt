-- Lists by rising number: what is found there, what is changed, and what is added at the end.
use Rattle.std.proofs.Common.{◌≡◌, ◌≢◌, ◌+◌, ◌<◌, ◌≤◌, ◌-◌, ℕ, zero, suc, Bool, true, false, cond, List, [], ◌∷◌, ◌++◌, length, get_or, set, Option, Some, None, Result, Ok, Err, refl, sym, ap, ◌∙◌, inl, inr, append_assoc, subst, arith}
use Rattle.std.specs.BTreeMap.{insert_entry, is_at}
use Rattle.std.specs.List.{All, AllByRecursion}
use Rattle.std.specs.List.Sorted.{IsBinarySearchResult, IsNonDecreasingBy, IsSearchInRange, IsStrictlySortedBy}
use Rattle.std.specs.Map.{keys_of, lookup, set_value}
use Rattle.std.specs.Prelude.{◌==◌, IfNone, IfSome, IsSome, drop, if◌then◌else◌, take, unwrap_or}
use Rattle.std.specs.Result.{result_ok}
use Rattle.std.specs.Ordering.{match_ordering, nat_cmp, ordering_index}
use Rattle.std.specs.declared.cmp.Ordering.{Ordering}
use Rattle.std.specs.declared.cmp.Ordering.TheVariants as order
use Rattle.std.proofs.lemmas.Bool.{cases_lt}
use Rattle.std.proofs.lemmas.Bool.Decides.{nat_tests}
use Rattle.std.proofs.lemmas.Cmp.{ranked}
use Rattle.std.proofs.lemmas.Grind.{common_steps}
use Rattle.std.proofs.lemmas.List.{get_or_default, get_or-drop, length-drop, take_rest}
use Rattle.std.proofs.lemmas.List.Elements.{All-head, All-tail}
use Rattle.account_core.specs.Rising.{AreRising, IsBelow, IsOther, StandsAt}

-- ---- how a number compares

above : (number other : ℕ) → other < number → nat_cmp number other ≡ order.Greater
above number other less = grind (arith, nat_tests)

same_as : (number other : ℕ) → other ≡ number → nat_cmp number other ≡ order.Equal
same_as number other same = grind (arith, nat_tests)

at_same : (number other : ℕ) → other ≡ number → is_at (nat_cmp number) other ≡ true
at_same number other same = grind (arith, nat_tests)

at_other : (number other : ℕ) → other ≢ number → is_at (nat_cmp number) other ≡ false
at_other number other differs = grind (arith, nat_tests)

plus_zero : (n : ℕ) → n + 0 ≡ n
plus_zero n = omega arith

differs_below : (number other : ℕ) → other < number → other ≢ number
differs_below number other less same = omega (arith, less, same)

module _ {V : Type 0} where
  -- ---- a list and its parts

  rising_tail : (first : ℕ × V) (list : List (ℕ × V)) → AreRising (first ∷ list) → AreRising list
  rising_tail first list rising i j d less within = rising (suc i) (suc j) d (omega arith) (omega arith)

  -- the first number is below the one at each later place
  first_below : (first : ℕ × V) (list : List (ℕ × V)) (place : ℕ) (d : ℕ × V) → AreRising (first ∷ list) → place < length list → first.0 < (get_or list place d).0
  first_below first list place d rising within = rising 0 (suc place) d (omega arith) (omega arith)

  -- numbers that rise are as far apart as their places, or farther
  pub spread : (list : List (ℕ × V)) (place steps : ℕ) (d : ℕ × V) → AreRising list → place + steps < length list
      → (get_or list place d).0 + steps ≤ (get_or list (place + steps) d).0
  spread list place zero d rising within = omega (arith, ap (λ n. (get_or list n d).0) (plus_zero place))
  spread list place (suc steps) d rising within =
      omega (arith, spread list place steps d rising (omega (arith, within)), rising (place + steps) (place + suc steps) d (omega arith) within)

  -- ---- what a search finds

  -- the comparisons with a number rise along the list, as a search asks
  comparisons_rise : (number : ℕ) (list : List (ℕ × V)) → AreRising list → IsNonDecreasingBy (λ item. ordering_index (nat_cmp item.0 number)) list
  comparisons_rise number list rising i j d le within =
      let rise : (get_or list i d).0 ≤ (get_or list j d).0 = grind (arith, rising i j d, λ (same : i ≡ j). ap (λ n. (get_or list n d).0) same) in
      grind (arith, nat_tests)

  -- what a search for a number answers
  pub record IsSearched (number : ℕ) (list : List (ℕ × V)) (place : Option ℕ) : Type 0 where
    pub found : IfSome place (StandsAt list number)
    pub absent : IfNone place (All (IsOther number) list)

  pub searched : (number : ℕ) (list : List (ℕ × V)) (answer : Result ℕ ℕ) → AreRising list → IsSearchInRange answer (length list)
      → IsBinarySearchResult (λ item. nat_cmp item.0 number) list answer → IsSearched number list (result_ok answer)
  searched number list (Ok place) rising within equal = record { found = (within, λ d. ranked _ number _ (sym (equal d))); absent = tt }
  searched number list (Err gap) rising within parted = record {
    found = tt;
    absent = λ place d inside same. elim (cases_lt place gap) [
      | inl before ↦ let less = ranked _ number _ (sym ((parted (comparisons_rise number list rising)).0 place d (omega arith) before)) in omega (arith, less, same)
      | inr after ↦ let more = ranked _ number _ (sym ((parted (comparisons_rise number list rising)).1 place d after inside)) in omega (arith, more, same)
    ];
  }

  -- what is left of a list without its first items rises
  rising_drop : (list : List (ℕ × V)) (first : ℕ) → first ≤ length list → AreRising list → AreRising (drop first list)
  rising_drop list first inside rising i j d less within =
      rw (get_or-drop first list i d, get_or-drop first list j d)
      (rising (first + i) (first + j) d (omega (arith, less)) (omega (arith, within, length-drop first list, inside)))

  -- what a search in the list from a place on answers
  pub searched_from : (number : ℕ) (list : List (ℕ × V)) (first : ℕ) (answer : Result ℕ ℕ) → AreRising list → first ≤ length list
      → IsSearchInRange answer (length (take (length list - first) (drop first list)))
      → IsBinarySearchResult (λ item. nat_cmp item.0 number) (take (length list - first) (drop first list)) answer → IsSearched number (drop first list) (result_ok answer)
  searched_from number list first answer rising inside bound by_key =
      let P : List (ℕ × V) → Type 0 = λ rest. IsSearchInRange answer (length rest) × IsBinarySearchResult (λ item. nat_cmp item.0 number) rest answer in
      let (within, is) = subst P (take_rest list first) (bound, by_key) in
      searched number (drop first list) answer (rising_drop list first inside rising) within is

  -- what is in the rest is in the list
  pub stands_after : (number : ℕ) (list : List (ℕ × V)) (first place : ℕ) → first ≤ length list → StandsAt (drop first list) number place → StandsAt list number (first + place)
  stands_after number list first place inside (within, at) =
      (omega (arith, within, length-drop first list, inside), λ d. ap (λ (x : ℕ × V). x.0) (sym (get_or-drop first list place d)) ∙ at d)

  -- an item of a list by any other default
  item_at : (list : List (ℕ × V)) (place : ℕ) (item d : ℕ × V) → place < length list → item ≡ get_or list place item → (get_or list place d).0 ≡ item.0
  item_at list place item d within is = ap (λ (x : ℕ × V). x.0) (get_or_default list place d item within ∙ sym is)

  -- a number that is below the last one by so much is at most as many places before it
  pub absent_from : (number : ℕ) (list : List (ℕ × V)) (last : ℕ) (item : ℕ × V) (first : ℕ) → AreRising list → last < length list → item ≡ get_or list last item
      → number ≤ item.0 → first ≡ last - (item.0 - number) → All (IsOther number) (drop first list) → All (IsOther number) list
  absent_from number list last item first rising inside is below first_is others place d within same = elim (cases_lt place first) [
    | inl before ↦
        let far : (get_or list place d).0 + (last - place) ≤ (get_or list (place + (last - place)) d).0 = spread list place (last - place) d rising (omega (arith, inside, before, first_is)) in
        let end : place + (last - place) ≡ last = omega (arith, before, first_is) in
        let there : (get_or list (place + (last - place)) d).0 ≡ item.0 = ap (λ n. (get_or list n d).0) end ∙ item_at list last item d inside is in
        omega (arith, far, there, same, before, first_is, below)
    | inr after ↦
        let back : first + (place - first) ≡ place = omega (arith, after) in
        let here : (get_or (drop first list) (place - first) d).0 ≡ number =
        ap (λ (x : ℕ × V). x.0) (get_or-drop first list (place - first) d) ∙ (ap (λ n. (get_or list n d).0) back ∙ same) in
        others (place - first) d (omega (arith, within, after, length-drop first list)) here
  ]

  -- a number above the last one is nowhere
  pub absent_above : (number : ℕ) (list : List (ℕ × V)) (last : ℕ) (item : ℕ × V) → AreRising list → last < length list → last ≡ length list - 1 → item ≡ get_or list last item
      → item.0 < number → All (IsOther number) list
  absent_above number list last item rising inside last_is is above place d within same =
      let far : (get_or list place d).0 + (last - place) ≤ (get_or list (place + (last - place)) d).0 = spread list place (last - place) d rising (omega (arith, within, last_is)) in
      let end : place + (last - place) ≡ last = omega (arith, within, last_is) in
      let there : (get_or list (place + (last - place)) d).0 ≡ item.0 = ap (λ n. (get_or list n d).0) end ∙ item_at list last item d inside is in
      omega (arith, far, there, same, above)

  -- ---- what is found

  pub absent : (number : ℕ) (list : List (ℕ × V)) → All (IsOther number) list → lookup (is_at (nat_cmp number)) list ≡ None
  absent number [] others = refl
  absent number (first ∷ list) others =
      rw (at_other number first.0 (All-head (IsOther number) first list others)) (absent number list (All-tail (IsOther number) first list others))

  -- the number at the place is another one than the first
  other_first : (number : ℕ) (first : ℕ × V) (list : List (ℕ × V)) (place : ℕ) → AreRising (first ∷ list) → place < length list
      → ((d : ℕ × V) → (get_or list place d).0 ≡ number) → first.0 < number
  other_first number first list place rising within at = omega (arith, first_below first list place first rising within, at first)

  pub present : (number : ℕ) (list : List (ℕ × V)) (place : ℕ) (item : ℕ × V) → AreRising list → StandsAt list number place → item ≡ get_or list place item
      → lookup (is_at (nat_cmp number)) list ≡ Some item.1
  present number [] place item rising (within, at) is = absurd (omega (arith, within))
  present number (first ∷ list) zero item rising (within, at) is = rw (at_same number first.0 (at item)) (ap (λ (x : ℕ × V). Some x.1) (sym is))
  present number (first ∷ list) (suc place) item rising (within, at) is =
      rw (at_other number first.0 (differs_below number first.0 (other_first number first list place rising (omega (arith, within)) at)))
      (present number list place item (rising_tail first list rising) (omega (arith, within), at) is)

  -- a number above the last one is above each
  pub above_last : (number : ℕ) (list : List (ℕ × V)) (last : ℕ × V) → AreRising list → ((d : ℕ × V) → get_or list (length list - 1) d ≡ last)
      → last.0 < number → All (IsBelow number) list
  above_last number list last rising is less place d within =
      grind (arith, rising place (length list - 1) d, λ (same : place ≡ length list - 1). ap (λ n. (get_or list n d).0) same, ap (λ (x : ℕ × V). x.0) (is d))

  pub below_other : (number : ℕ) (list : List (ℕ × V)) → All (IsBelow number) list → All (IsOther number) list
  below_other number list below place d within same = omega (arith, below place d within, same)

  -- ---- what is set

  -- an entry of a number that is in the list changes what is there
  pub inserted_there : (number : ℕ) (list : List (ℕ × V)) (place : ℕ) (item : ℕ × V) (value : V) → AreRising list → StandsAt list number place
      → item ≡ get_or list place item → insert_entry nat_cmp list number value ≡ set list place (item.0, value)
  inserted_there number [] place item value rising (within, at) is = absurd (omega (arith, within))
  inserted_there number (first ∷ list) zero item value rising (within, at) is =
      rw (same_as number first.0 (at item)) (ap (λ (x : ℕ × V). (x.0, value) ∷ list) (sym is))
  inserted_there number (first ∷ list) (suc place) item value rising (within, at) is =
      rw (above number first.0 (other_first number first list place rising (omega (arith, within)) at))
      (ap (λ more. first ∷ more) (inserted_there number list place item value (rising_tail first list rising) (omega (arith, within), at) is))

  pub set_there : (number : ℕ) (list : List (ℕ × V)) (place : ℕ) (item : ℕ × V) (value : V) → AreRising list → StandsAt list number place
      → item ≡ get_or list place item → set_value (is_at (nat_cmp number)) list value ≡ set list place (item.0, value)
  set_there number [] place item value rising (within, at) is = absurd (omega (arith, within))
  set_there number (first ∷ list) zero item value rising (within, at) is =
      rw (at_same number first.0 (at item)) (ap (λ (x : ℕ × V). (x.0, value) ∷ list) (sym is))
  set_there number (first ∷ list) (suc place) item value rising (within, at) is =
      rw (at_other number first.0 (differs_below number first.0 (other_first number first list place rising (omega (arith, within)) at)))
      (ap (λ more. first ∷ more) (set_there number list place item value (rising_tail first list rising) (omega (arith, within), at) is))

  -- what is set in a list that rises leaves it rising
  pub rising_set : (list : List (ℕ × V)) (place : ℕ) (item : ℕ × V) (value : V) → AreRising list → place < length list → item ≡ get_or list place item
      → AreRising (set list place (item.0, value))
  rising_set list place item value rising within is i j d less inside =
      grind (arith, common_steps, rising i j d, item_at list place item d within is)

  -- ---- what is added at the end

  pub inserted_last : (number : ℕ) (value : V) (list : List (ℕ × V)) → All (IsBelow number) list
      → insert_entry nat_cmp list number value ≡ list ++ (number, value) ∷ []
  inserted_last number value [] below = refl
  inserted_last number value (first ∷ list) below =
      rw (above number first.0 (All-head (IsBelow number) first list below))
      (ap (λ more. first ∷ more) (inserted_last number value list (All-tail (IsBelow number) first list below)))

  pub rising_more : (number : ℕ) (value : V) (list : List (ℕ × V)) → AreRising list → All (IsBelow number) list → AreRising (list ++ (number, value) ∷ [])
  rising_more number value list rising below i j d less within = grind (arith, common_steps, rising i j d, below i d)

  -- those before an item are below it
  below_next : (earlier : List (ℕ × V)) (next : ℕ × V) (later : List (ℕ × V)) → AreRising (earlier ++ next ∷ later) → All (IsBelow next.0) earlier
  below_next earlier next later rising place d within = grind (arith, common_steps, rising place (length earlier) d)

  -- one item after another goes from a list to a map
  pub mapped_more : (earlier : List (ℕ × V)) (next : ℕ × V) (later all : List (ℕ × V)) → AreRising all → earlier ++ next ∷ later ≡ all
      → insert_entry nat_cmp earlier next.0 next.1 ++ later ≡ all
  mapped_more earlier next later all rising is =
      rw (inserted_last next.0 next.1 earlier (below_next earlier next later (rw is rising))) (append_assoc earlier (next ∷ []) later ∙ is)

-- ---- what is looked up

at_is : (number other : ℕ) → is_at (nat_cmp other) number ≡ (number == other)
at_is number other = grind (arith, nat_tests)

at_key : (number key : ℕ) → nat_cmp number key ≡ order.Equal → key ≡ number
at_key number key equal = grind (arith, nat_tests)

turned : (number other : ℕ) → (number == other) ≡ (other == number)
turned number other = grind (arith, nat_tests)

beyond : (number key other : ℕ) → nat_cmp number key ≡ order.Greater → (number == other) ≡ true → is_at (nat_cmp other) key ≡ false
beyond number key other greater same = grind (arith, nat_tests)

module _ {V : Type 0} (number : ℕ) (value : V) (other : ℕ) where
  in_place_of : (here : Bool) (was : V) (rest : Option V) → cond here (Some value) rest ≡ (if here then Some value else cond here (Some was) rest)
  in_place_of true was rest = refl
  in_place_of false was rest = refl

  later : (here now : Bool) (was : V) (rest : Option V) → (now ≡ true → here ≡ false) → cond here (Some was) (if now then Some value else rest) ≡ (if now then Some value else cond here (Some was) rest)
  later true true was rest apart = let never = apart refl in cc
  later false true was rest apart = refl
  later true false was rest apart = refl
  later false false was rest apart = refl

  inserted_by : (how : Ordering) (first : ℕ × V) (list : List (ℕ × V)) → nat_cmp number first.0 ≡ how
      → lookup (is_at (nat_cmp other)) (insert_entry nat_cmp list number value) ≡ (if number == other then Some value else lookup (is_at (nat_cmp other)) list)
      → lookup (is_at (nat_cmp other)) (match_ordering how ((number, value) ∷ first ∷ list) ((first.0, value) ∷ list) (first ∷ insert_entry nat_cmp list number value))
      ≡ (if number == other then Some value else lookup (is_at (nat_cmp other)) (first ∷ list))
  inserted_by order.Less first list how rest = rw (at_is number other) refl
  inserted_by order.Equal first list how rest =
      rw (at_key number first.0 how, at_is number other) (in_place_of (number == other) first.1 (lookup (is_at (nat_cmp other)) list))
  inserted_by order.Greater first list how rest =
      rw rest (later (is_at (nat_cmp other) first.0) (number == other) first.1 (lookup (is_at (nat_cmp other)) list) (beyond number first.0 other how))

  -- what is looked up after an entry is inserted
  pub looked_up : (list : List (ℕ × V))
      → lookup (is_at (nat_cmp other)) (insert_entry nat_cmp list number value) ≡ (if number == other then Some value else lookup (is_at (nat_cmp other)) list)
  looked_up [] = rw (at_is number other) refl
  looked_up (first ∷ list) = inserted_by (nat_cmp number first.0) first list refl (looked_up list)

  -- the same, where the number that is looked up is first
  pub looked_up_at : (list : List (ℕ × V))
      → lookup (is_at (nat_cmp other)) (insert_entry nat_cmp list number value) ≡ (if other == number then Some value else lookup (is_at (nat_cmp other)) list)
  looked_up_at list = rw (turned other number) (looked_up list)

  or_else : (now : Bool) (found : Option V) (none : V) → unwrap_or (if now then Some value else found) none ≡ (if now then value else unwrap_or found none)
  or_else true found none = refl
  or_else false found none = refl

-- what is kept of each number, after one of them has another value
pub kept_of : {V : Type 0} (old new : List (ℕ × V)) (number : ℕ) (value : V) (other : ℕ) (none : V) → new ≡ insert_entry nat_cmp old number value
    → unwrap_or (lookup (is_at (nat_cmp other)) new) none ≡ (if number == other then value else unwrap_or (lookup (is_at (nat_cmp other)) old) none)
kept_of old new number value other none is =
    rw (is, looked_up number value other old) (or_else number value other (number == other) (lookup (is_at (nat_cmp other)) old) none)

itself : (number : ℕ) → (number == number) ≡ true
itself number = grind (arith, nat_tests)

-- a number that is given a value has one
pub kept_there : {V : Type 0} (number : ℕ) (value : V) (list : List (ℕ × V)) → IsSome (lookup (is_at (nat_cmp number)) (insert_entry nat_cmp list number value))
kept_there number value list = rw (looked_up number value number list, itself number) refl

-- ---- in std's words

less_by : (number other : ℕ) → number < other → nat_cmp number other ≡ order.Less
less_by number other less = grind (arith, nat_tests)

module _ {V : Type 0} where
  below_each : (number : ℕ) (list : List (ℕ × V)) → ((place : ℕ) (d : ℕ × V) → place < length list → number < (get_or list place d).0)
      → AllByRecursion (λ other. nat_cmp number other ≡ order.Less) (keys_of list)
  below_each number [] above = tt
  below_each number (first ∷ list) above =
      (less_by number first.0 (above 0 first (omega arith)), below_each number list (λ place d within. above (suc place) d (omega (arith, within))))

  pub sorted : (list : List (ℕ × V)) → AreRising list → IsStrictlySortedBy nat_cmp (keys_of list)
  unfolding IsStrictlySortedBy
  sorted [] rising = tt
  sorted (first ∷ list) rising = (below_each first.0 list (λ place d within. first_below first list place d rising within), sorted list (rising_tail first list rising))

-- ---- what is set in a map

differs_less : (number other : ℕ) → nat_cmp number other ≡ order.Less → other ≢ number
differs_less number other less same = grind (arith, nat_tests)

less_less : (number middle other : ℕ) → nat_cmp number middle ≡ order.Less → nat_cmp middle other ≡ order.Less → nat_cmp number other ≡ order.Less
less_less number middle other less more = grind (arith, nat_tests)

at_equal : (number other : ℕ) → nat_cmp number other ≡ order.Equal → is_at (nat_cmp number) other ≡ true
at_equal number other equal = grind (arith, nat_tests)

at_greater : (number other : ℕ) → nat_cmp number other ≡ order.Greater → is_at (nat_cmp number) other ≡ false
at_greater number other greater = grind (arith, nat_tests)

module _ {V : Type 0} (number : ℕ) (value : V) where
  -- a number below all others has no entry
  none_below : (middle : ℕ) (list : List (ℕ × V)) → nat_cmp number middle ≡ order.Less → AllByRecursion (λ other. nat_cmp middle other ≡ order.Less) (keys_of list)
      → lookup (is_at (nat_cmp number)) list ≡ None
  none_below middle [] less most = refl
  none_below middle (first ∷ list) less (more, most) =
      rw (at_other number first.0 (differs_less number first.0 (less_less number middle first.0 less more))) (none_below middle list less most)

  set_by : (how : Ordering) (first : ℕ × V) (list : List (ℕ × V)) → nat_cmp number first.0 ≡ how
      → AllByRecursion (λ other. nat_cmp first.0 other ≡ order.Less) (keys_of list) → IsSome (lookup (is_at (nat_cmp number)) (first ∷ list))
      → (IsSome (lookup (is_at (nat_cmp number)) list) → set_value (is_at (nat_cmp number)) list value ≡ insert_entry nat_cmp list number value)
      → set_value (is_at (nat_cmp number)) (first ∷ list) value
      ≡ match_ordering how ((number, value) ∷ first ∷ list) ((first.0, value) ∷ list) (first ∷ insert_entry nat_cmp list number value)
  set_by order.Less first list how least there rest =
      let none : false ≡ true = rw (at_other number first.0 (differs_less number first.0 how), none_below first.0 list how least) at there in cc
  set_by order.Equal first list how least there rest = rw (at_equal number first.0 how) refl
  set_by order.Greater first list how least there rest =
      rw (at_greater number first.0 how) (ap (λ more. first ∷ more) (rest (rw (at_greater number first.0 how) at there)))

  -- a number that has a value in a map is given another one in its place
  pub set_is_inserted : (list : List (ℕ × V)) → IsStrictlySortedBy nat_cmp (keys_of list) → IsSome (lookup (is_at (nat_cmp number)) list)
      → set_value (is_at (nat_cmp number)) list value ≡ insert_entry nat_cmp list number value
  unfolding IsStrictlySortedBy
  set_is_inserted [] ordered there = let none : false ≡ true = there in cc
  set_is_inserted (first ∷ list) (least, ordered) there = set_by (nat_cmp number first.0) first list refl least there (set_is_inserted list ordered)
