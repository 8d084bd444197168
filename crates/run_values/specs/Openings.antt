-- What accounts are opened with.
use Rattle.std.specs.Prelude.{◌≡◌, ◌&&◌, ℕ, Bool, true, Option, Some, None, List, All, nat_le}
use Rattle.std.specs.List.Sorted.{IsStrictlySortedBy}
use Rattle.std.specs.Map.{keys_of}
use Rattle.std.specs.Ordering.{nat_cmp}
use Rattle.price_core.specs.declared.plan.TheConstants.{MAX_MONEY}
use Rattle.price_core.specs.declared.times.TheConstants.{MAX_MOMENT}
use Rattle.run_values.specs.declared.directory.OpeningCredit.{OpeningCredit}

-- no credit, and no last moment
abbrev pub no_credit : OpeningCredit
no_credit = record { amount = 0; until = None }

-- whether a last moment, where there is one, is at most `MAX_MOMENT`
abbrev pub expires_in_time : Option ℕ → Bool
expires_in_time None = true
expires_in_time (Some until) = nat_le until MAX_MOMENT

-- whether an opening credit is 0 to `MAX_MONEY`, and its last moment in time
abbrev pub opening_is_in_range : OpeningCredit → Bool
opening_is_in_range opening = nat_le opening.amount MAX_MONEY && expires_in_time opening.until

-- accounts by rising number, each with an opening credit in its range
pub record HasAccounts (accounts : List (ℕ × OpeningCredit)) : Type 0 where
  pub ordered : IsStrictlySortedBy nat_cmp (keys_of accounts)
  pub range : All (λ account. opening_is_in_range account.1 ≡ true) accounts
