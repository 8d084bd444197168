-- The decimals of every text: 1 to 20 ASCII digits.
use Rattle.std.specs.Prelude.{ℕ, Bool, ◌-◌, ◌&&◌, List, length, Option, Some, None, nat_le, if◌then◌else◌}
use Rattle.std.specs.Char.{is_ascii_digit}
use Rattle.std.specs.Fmt.{decimal}
use Rattle.std.specs.List.{flat_map, list_all}
use Rattle.std.specs.Str.Parse.{digits_value}

-- a text of 1 to 20 digits
abbrev pub is_decimal : List ℕ → Bool
is_decimal text = nat_le 1 (length text) && nat_le (length text) 20 && list_all is_ascii_digit text

-- the number that a decimal writes
unfoldable pub digits_of : List ℕ → Option ℕ
digits_of text = if is_decimal text then Some (digits_value 10 text) else None

-- the number that a decimal writes, where it is at most `most`
unfoldable pub decimal_of : ℕ → List ℕ → Option ℕ
decimal_of most text = if is_decimal text && nat_le (digits_value 10 text) most then Some (digits_value 10 text) else None

-- digits, each in decimals
abbrev pub digits_text : List ℕ → List ℕ
digits_text digits = flat_map (λ byte. decimal (byte - 48)) digits
