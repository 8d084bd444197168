-- The range of causes (ITU-T Q.850).
use Rattle.std.specs.Prelude.{◌&&◌, ℕ, Bool, nat_le}

-- 1 to 127
abbrev pub is_cause : ℕ → Bool
is_cause value = nat_le 1 value && nat_le value 127
