-- The digits of a number are ASCII.
use Rattle.std.proofs.Common.{◌≡◌, ◌<◌, ℕ, zero, suc, true, List, [], ◌∷◌, length, arith}
use Rattle.std.specs.Prelude.{◌&&◌, nat_le}
use Rattle.std.specs.Char.{is_ascii_digit}
use Rattle.std.specs.List.{list_all}
use Rattle.std.specs.Str.{IsAscii}
use Rattle.std.proofs.lemmas.Bool.Decides.{nat_tests}
use Rattle.std.proofs.lemmas.Bool.{and_parts}
use Rattle.cap_values.specs.Numbers.{is_number}

digit_below : (c : ℕ) → is_ascii_digit c ≡ true → c < 128
digit_below c digit = grind (arith, nat_tests)

digits_below : (text : List ℕ) → list_all is_ascii_digit text ≡ true → IsAscii text
digits_below [] all i = omega arith
digits_below (c ∷ text) all zero = digit_below c (and_parts (is_ascii_digit c) (list_all is_ascii_digit text) all).0
digits_below (c ∷ text) all (suc i) = digits_below text (and_parts (is_ascii_digit c) (list_all is_ascii_digit text) all).1 i

-- each byte of a number is ASCII
pub number_ascii : (text : List ℕ) → is_number text ≡ true → IsAscii text
number_ascii text is = digits_below text (and_parts (nat_le 1 (length text) && nat_le (length text) 15) _ is).1
