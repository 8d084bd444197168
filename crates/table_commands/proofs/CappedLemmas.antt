-- A number above 32 bits counts as the greatest number of 32 bits.
use Rattle.std.proofs.Common.{◌≡◌, ◌≤◌, ℕ, Bool, true, false, List, Option, Some, None, refl, ap, min, arith}
use Rattle.std.specs.Prelude.{option_map, unwrap_or, nat_le, if◌then◌else◌}
use Rattle.std.proofs.lemmas.Bool.Decides.{nat_tests}
use Rattle.std.specs.Str.Parse.{digits_value}
use Rattle.table_core.specs.Decimals.{decimal_of, is_decimal}
use Rattle.table_commands.specs.Capped.{capped}
use Rattle.table_commands.specs.RunWords.{number_written}

by_size : (number : ℕ) → Some (unwrap_or (if nat_le number 4294967295 then Some number else None) 4294967295) ≡ Some (min number 4294967295)
by_size number = ap (λ n. Some n) (cases (nat_le number 4294967295) refl)
  where
    cases : (b : Bool) → nat_le number 4294967295 ≡ b → unwrap_or (if b then Some number else None) 4294967295 ≡ min number 4294967295
    cases true is = let within : number ≤ 4294967295 = grind (arith, nat_tests) in omega arith
    cases false is = let above : 4294967296 ≤ number = grind (arith, nat_tests) in omega arith

-- what `decimal` reads, or the greatest number in its place
pub capped_number : (text : List ℕ) (read : Option ℕ) → is_decimal text ≡ true → read ≡ decimal_of 4294967295 text
    → Some (unwrap_or read 4294967295) ≡ option_map capped (number_written text)
unfolding decimal_of
capped_number text read is_one is = rw (is, is_one) (by_size (digits_value 10 text))
