-- What each call of a history comes to.
use Rattle.std.specs.Prelude.{◌≡◌, ◌==◌, ℕ, Option, Some, None, List, [], ◌∷◌, ◌++◌, if◌then◌else◌, map, option_to_list}
use Rattle.std.specs.List.Sorted.{IsStrictlySortedBy}
use Rattle.std.specs.Ordering.{nat_cmp}
use Rattle.price_core.specs.Rates.{Rates}
use Rattle.account_core.specs.Entries.{EntryData}
use Rattle.account_core.specs.Kept.{known_of}
use Rattle.account_core.specs.Known.{CallFacts, known, paid_of}
use Rattle.account_core.specs.declared.call_state.CallState.{CallState}
use Rattle.account_core.specs.declared.call_sum.CallSum.{CallSum}
use Rattle.account_core.specs.declared.call_sum.Fate.{Fate}
use Rattle.account_core.specs.declared.call_sum.Fate.TheVariants as fate

-- a call with a forfeit has that fate; another was returned, or holds money still
abbrev pub fate_of : CallFacts → Fate
fate_of known = if known.forfeited then fate.Forfeit else if known.returned then fate.Returned else fate.Holding

-- what a call comes to, where it was granted anything
abbrev pub sum_under : Option Rates → ℕ → CallFacts → Option CallSum
sum_under None call known = None
sum_under (Some plan) call known = Some (record { call = call; paid = paid_of known; fate = fate_of known })

-- the row of a call in a summary, where it was ever granted anything
abbrev pub sum_of : ℕ → CallFacts → Option CallSum
sum_of call known = sum_under known.plan call known

-- the sum of this call in a list
abbrev pub sum_in : ℕ → List CallSum → Option CallSum
sum_in call [] = None
sum_in call (sum ∷ sums) = if call == sum.call then Some sum else sum_in call sums

-- the sums of the calls that were granted anything, and of no others, by rising number
pub record AreSums (h : List EntryData) (sums : List CallSum) : Type 0 where
  pub rising : IsStrictlySortedBy nat_cmp (map (λ sum. sum.call) sums)
  pub each : (call : ℕ) → sum_in call sums ≡ sum_of call (known call h)

-- the sums that states say
abbrev pub sums_known : List (ℕ × CallState) → List CallSum
sums_known [] = []
sums_known (entry ∷ entries) = option_to_list (sum_of entry.0 (known_of entry.1)) ++ sums_known entries
