-- The texts that are numbers of parties.
use Rattle.std.specs.Prelude.{◌&&◌, ℕ, Bool, List, length, nat_le}
use Rattle.std.specs.Char.{is_ascii_digit}
use Rattle.std.specs.List.{list_all}
use Rattle.cap_values.specs.declared.number.TheConstants.{MAX_DIGITS}

-- 1 to `MAX_DIGITS` ASCII digits
abbrev pub is_number : List ℕ → Bool
is_number text = nat_le 1 (length text) && nat_le (length text) MAX_DIGITS && list_all is_ascii_digit text
