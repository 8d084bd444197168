-- The ranges of a report's times.
use Rattle.std.specs.Prelude.{◌≤◌, ℕ, Option, IfSome}
use Rattle.price_core.specs.declared.times.TheConstants.{DAY}

-- the time of a report without a switch
abbrev pub IsNoSwitch : ℕ → Type 0
IsNoSwitch time = time ≤ DAY

-- the times of a report after a switch
abbrev pub AreAfterSwitch : ℕ → Option ℕ → Type 0
AreAfterSwitch since interval = (since ≤ DAY) × IfSome interval (λ length. (1 ≤ length) × (length ≤ DAY))
