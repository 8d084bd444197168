-- The most units that money covers.
use Rattle.std.specs.Prelude.{◌+◌, ◌-◌, ℕ, min, nat_le, if◌then◌else◌}
use Rattle.std.proofs.Common.{zero, suc}
use Rattle.price_core.specs.Ceiling.{ceiling_of}
use Rattle.price_core.specs.Rates.{Rates}
use Rattle.price_core.specs.Times.{Elapsed}
use Rattle.price_core.specs.declared.times.TheConstants.{DAY}

-- the greatest number up to n of units whose ceiling the money covers, 0 if there is none
unfoldable pub units_covered : Rates → Elapsed → ℕ → ℕ → ℕ
units_covered plan old money zero = 0
units_covered plan old money (suc n) = if nat_le (ceiling_of plan old (suc n)) money then suc n else units_covered plan old money n

-- the same of what is wanted, as far as a day goes
abbrev pub units_afforded : Rates → Elapsed → ℕ → ℕ → ℕ
units_afforded plan old wanted money = units_covered plan old money (min wanted (DAY - (old.before + old.after)))
