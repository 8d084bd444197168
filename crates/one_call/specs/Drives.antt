-- When a call is driven.
use Rattle.std.specs.Prelude.{◌≤◌, ℕ}

-- a delay of 1 to the time that the gsmSSF waits for a further period
pub record IsDelay (delay tccd : ℕ) : Type 0 where
  pub positive : 1 ≤ delay
  pub in_time : delay ≤ tccd
