-- The ranges of a service's times.
use Rattle.std.specs.Prelude.{◌≤◌, ℕ}
use Rattle.price_core.specs.declared.times.TheConstants.{DAY}

-- a time of 1 to a day is wanted, no less than the least of use, and that no less than the gsmSSF waits
pub record IsService (wanted least tccd : ℕ) : Type 0 where
  pub positive : 1 ≤ tccd
  pub waits : tccd ≤ least
  pub serves : least ≤ wanted
  pub within_day : wanted ≤ DAY
