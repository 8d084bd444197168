-- When something happens next.
use Rattle.std.specs.Prelude.{ℕ, Option, Some, None, min, nat_lt, if◌then◌else◌}
use Rattle.price_core.specs.declared.times.TheConstants.{HORIZON}

-- the lesser of two moments, where there are two
abbrev pub sooner : Option ℕ → Option ℕ → Option ℕ
sooner None second = second
sooner (Some first) None = Some first
sooner (Some first) (Some second) = Some (min first second)

-- a moment that a gsmSSF takes, or none
abbrev pub in_reach : Option ℕ → Option ℕ
in_reach None = None
in_reach (Some moment) = if nat_lt HORIZON moment then None else Some moment
