-- The ranges of ApplyCharging (GSM 09.78).
use Rattle.std.specs.Prelude.{◌≤◌, ℕ, Option, IfSome, IsSomeAnd}
use Rattle.price_core.specs.declared.times.TheConstants.{DAY}

-- a period is given, of 1 to a day in units of 100 ms, and the tariff switches 1 to a day's seconds on, if at all
abbrev pub IsCharge : Option ℕ → Option ℕ → Type 0
IsCharge period switch =
    IsSomeAnd period (λ units. (1 ≤ units) × (units ≤ DAY)) × IfSome switch (λ seconds. (1 ≤ seconds) × (seconds ≤ 86400))
