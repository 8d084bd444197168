-- The sums of an account's states are those of its history.
use Rattle.std.proofs.Common.{◌≡◌, ℕ, Bool, true, false, Option, Some, None, List, [], ◌∷◌, ◌++◌, refl, sym, ap, ◌∙◌, arith, subst}
use Rattle.std.specs.Prelude.{◌==◌, if◌then◌else◌, map, option_to_list, unwrap_or}
use Rattle.std.specs.BTreeMap.{is_at}
use Rattle.std.specs.List.{AllByRecursion}
use Rattle.std.specs.List.Sorted.{IsStrictlySortedBy}
use Rattle.std.specs.Map.{lookup}
use Rattle.std.specs.Ordering.{nat_cmp}
use Rattle.std.specs.declared.cmp.Ordering.TheVariants.{Less}
use Rattle.std.proofs.lemmas.Bool.Decides.{nat_tests}
use Rattle.price_core.specs.Rates.{Rates}
use Rattle.account_core.specs.Entries.{EntryData}
use Rattle.account_core.specs.Kept.{KnowsEach, known_of}
use Rattle.account_core.specs.Known.{CallFacts, known}
use Rattle.account_core.specs.Sums.{AreSums, sum_in, sum_of, sum_under, sums_known}
use Rattle.account_core.specs.declared.call_state.CallState.{CallState}
use Rattle.account_core.specs.declared.call_states.CallStates.{CallStates}
use Rattle.account_core.specs.declared.call_state.CallState.TheVariants.{Fresh}
use Rattle.account_core.specs.declared.call_sum.CallSum.{CallSum}

-- a number lies below all of a list
abbrev IsBelow : ℕ → List ℕ → Type 0
IsBelow call others = AllByRecursion (λ other. nat_cmp call other ≡ Less) others

-- ---- one state more

below_by : (plan : Option Rates) (known : CallFacts) (least call : ℕ) (sums : List CallSum) → nat_cmp least call ≡ Less → IsBelow least (map (λ sum. sum.call) sums)
    → IsBelow least (map (λ sum. sum.call) (option_to_list (sum_under plan call known) ++ sums))
below_by None known least call sums less below = below
below_by (Some plan) known least call sums less below = (less, below)

rising_by : (plan : Option Rates) (known : CallFacts) (call : ℕ) (sums : List CallSum) → IsBelow call (map (λ sum. sum.call) sums)
    → IsStrictlySortedBy nat_cmp (map (λ sum. sum.call) sums) → IsStrictlySortedBy nat_cmp (map (λ sum. sum.call) (option_to_list (sum_under plan call known) ++ sums))
unfolding IsStrictlySortedBy
rising_by None known call sums below rising = rising
rising_by (Some plan) known call sums below rising = (below, rising)

apart_by : (plan : Option Rates) (known : CallFacts) (q call : ℕ) (sums : List CallSum) → (q == call) ≡ false
    → sum_in q (option_to_list (sum_under plan call known) ++ sums) ≡ sum_in q sums
apart_by None known q call sums apart = refl
apart_by (Some plan) known q call sums apart = rw apart refl

here_by : (plan : Option Rates) (known : CallFacts) (q : ℕ) (sums : List CallSum) → (q == q) ≡ true → sum_in q sums ≡ None
    → sum_in q (option_to_list (sum_under plan q known) ++ sums) ≡ sum_under plan q known
here_by None known q sums same absent = absent
here_by (Some plan) known q sums same absent = rw same refl

-- ---- all of them

less_apart : (q call : ℕ) → nat_cmp q call ≡ Less → (q == call) ≡ false
less_apart q call less = grind (arith, nat_tests)

at_true : (q call : ℕ) → is_at (nat_cmp q) call ≡ true → q ≡ call
at_true q call is = grind (arith, nat_tests)

at_false : (q call : ℕ) → is_at (nat_cmp q) call ≡ false → (q == call) ≡ false
at_false q call is = grind (arith, nat_tests)

same_true : (q : ℕ) → (q == q) ≡ true
same_true q = grind (arith, nat_tests)

below_all : (least : ℕ) (entries : List (ℕ × CallState)) → IsBelow least (map (λ e. e.0) entries) → IsBelow least (map (λ sum. sum.call) (sums_known entries))
below_all least [] below = tt
below_all least ((call, state) ∷ entries) below =
    below_by (known_of state).plan (known_of state) least call (sums_known entries) below.0 (below_all least entries below.1)

rising_all : (entries : List (ℕ × CallState)) → IsStrictlySortedBy nat_cmp (map (λ e. e.0) entries)
    → IsStrictlySortedBy nat_cmp (map (λ sum. sum.call) (sums_known entries))
unfolding IsStrictlySortedBy
rising_all [] rising = tt
rising_all ((call, state) ∷ entries) rising =
    rising_by (known_of state).plan (known_of state) call (sums_known entries) (below_all call entries rising.0) (rising_all entries rising.1)

absent_all : (q : ℕ) (entries : List (ℕ × CallState)) → IsBelow q (map (λ e. e.0) entries) → sum_in q (sums_known entries) ≡ None
absent_all q [] below = refl
absent_all q ((call, state) ∷ entries) below =
    apart_by (known_of state).plan (known_of state) q call (sums_known entries) (less_apart q call below.0) ∙ absent_all q entries below.1

-- the sum of the state that a search finds
abbrev sum_found : ℕ → Option CallState → Option CallSum
sum_found q None = None
sum_found q (Some state) = sum_of q (known_of state)

found_by : (here : Bool) (q call : ℕ) (state : CallState) (entries : List (ℕ × CallState)) → is_at (nat_cmp q) call ≡ here
    → IsBelow call (map (λ e. e.0) entries) → sum_in q (sums_known entries) ≡ sum_found q (lookup (is_at (nat_cmp q)) entries)
    → sum_in q (option_to_list (sum_of call (known_of state)) ++ sums_known entries) ≡ sum_found q (if here then Some state else lookup (is_at (nat_cmp q)) entries)
found_by true q call state entries is below rest =
    let P : ℕ → Type 0 = λ n. IsBelow n (map (λ e. e.0) entries)
    → sum_in q (option_to_list (sum_of n (known_of state)) ++ sums_known entries) ≡ sum_of q (known_of state) in
    subst P (at_true q call is) (λ b. here_by (known_of state).plan (known_of state) q (sums_known entries) (same_true q) (absent_all q entries b)) below
found_by false q call state entries is below rest =
    apart_by (known_of state).plan (known_of state) q call (sums_known entries) (at_false q call is) ∙ rest

found_all : (q : ℕ) (entries : List (ℕ × CallState)) → IsStrictlySortedBy nat_cmp (map (λ e. e.0) entries)
    → sum_in q (sums_known entries) ≡ sum_found q (lookup (is_at (nat_cmp q)) entries)
unfolding IsStrictlySortedBy
found_all q [] rising = refl
found_all q ((call, state) ∷ entries) rising =
    found_by (is_at (nat_cmp q) call) q call state entries refl rising.0 (found_all q entries rising.1)

found_response : (q : ℕ) (found : Option CallState) (call : CallFacts) → known_of (unwrap_or found Fresh) ≡ call → sum_found q found ≡ sum_of q call
found_response q None call is = ap (sum_of q) is
found_response q (Some state) call is = ap (sum_of q) is

-- ---- an account's

pub listed_sums : (h : List EntryData) (calls : CallStates) → KnowsEach calls h
    → (entries : List (ℕ × CallState)) → calls.calls ≡ entries → IsStrictlySortedBy nat_cmp (map (λ e. e.0) entries) → (sums : List CallSum) → sums ≡ sums_known entries
    → AreSums h sums
listed_sums h calls tells entries are ordered sums is =
    let P : List CallSum → Type 0 = AreSums h in
    subst P (sym is) (record {
      rising = rising_all entries ordered;
      each = λ q. found_all q entries ordered ∙ found_response q (lookup (is_at (nat_cmp q)) entries) (known q h)
          (ap (λ es. known_of (unwrap_or (lookup (is_at (nat_cmp q)) es) Fresh)) (sym are) ∙ tells q);
    })

-- a history without entries has no sums
pub no_sums : (sums : List CallSum) → sums ≡ [] → AreSums [] sums
unfolding IsStrictlySortedBy
no_sums sums none = subst (AreSums []) (sym none) (record { rising = tt; each = λ q. refl })
