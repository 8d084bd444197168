-- The times of a call.
use Rattle.std.specs.Prelude.{◌≡◌, ◌+◌, ◌≤◌, ℕ, Bool, false}
use Rattle.price_core.specs.declared.times.TheConstants.{DAY}

-- the time before the tariff switch and after it, in units of 100 ms, and whether there was a switch
pub record Elapsed : Type 0 where
  pub before : ℕ
  pub after : ℕ
  pub switched : Bool

-- before any report
abbrev pub no_times : Elapsed
no_times = record { before = 0; after = 0; switched = false }

-- times of a call: a day at most, and nothing after a switch that wasn't
pub record IsTimes (before after : ℕ) (switched : Bool) : Type 0 where
  pub within_day : before + after ≤ DAY
  pub unswitched : switched ≡ false → after ≡ 0
