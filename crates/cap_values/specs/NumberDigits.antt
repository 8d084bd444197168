-- What a number of a party is, and the order of such numbers.
use Rattle.std.specs.Prelude.{ℕ, List, take}
use Rattle.std.specs.Cmp.Lexicographic.{slice_cmp}
use Rattle.std.specs.Ordering.{nat_cmp, on}
use Rattle.std.specs.declared.cmp.Ordering.{Ordering}
use Rattle.cap_values.specs.declared.number.Number.{Number}

-- the digits of a number, in ASCII
abbrev pub digits_of_number : Number → List ℕ
digits_of_number number = take number.len number.digits

-- the order of numbers: digit by digit, from the first one on
abbrev pub by_digits : Number → Number → Ordering
by_digits = on digits_of_number (slice_cmp nat_cmp)
