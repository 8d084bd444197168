-- The range of the gsmSSF's timers.
use Rattle.std.specs.Prelude.{◌≤◌, ℕ}
use Rattle.price_core.specs.declared.times.TheConstants.{DAY}

-- a timer of 1 to a day, in units of 100 ms
pub record IsTimer (units : ℕ) : Type 0 where
  pub positive : 1 ≤ units
  pub within_day : units ≤ DAY
