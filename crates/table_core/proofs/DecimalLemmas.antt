-- One digit more of a decimal.
use Rattle.std.proofs.Common.{◌≡◌, ℕ, ◌+◌, ◌*◌, ◌-◌, ◌^◌, ◌<◌, ◌≤◌, true, List, length, get_or, take, sym, ap, ◌∙◌, add-one, arith}
use Rattle.std.proofs.Math.Nat.{pow-le-pow_right, pow-suc}
use Rattle.std.proofs.lemmas.Bool.Decides.{nat_tests}
use Rattle.std.proofs.lemmas.Int.Digits.{digits_value_more}
use Rattle.std.proofs.lemmas.List.Folds.{list_all_at, list_all_more}
use Rattle.std.specs.Char.{digit_value, is_ascii_digit}
use Rattle.std.specs.List.{list_all}
use Rattle.std.specs.Str.Parse.{digits_value}
use Rattle.std.proofs.lemmas.Bool.{true_from_ne_false}

digit_at : (text : List ℕ) (i : ℕ) → i < length text → list_all is_ascii_digit text ≡ true → is_ascii_digit (get_or text i 0) ≡ true
digit_at text i within all = true_from_ne_false _ (λ no. let none = list_all_at is_ascii_digit text i 0 within no in cc)

digit_is : (c : ℕ) → is_ascii_digit c ≡ true → (digit_value c ≡ c - 48) × (c - 48 ≤ 9) × (48 ≤ c)
digit_is c digit = grind (arith, nat_tests)

-- a number of up to 19 digits has 64 bits, and so has ten times one of fewer
pub short_powers : (i : ℕ) → i < 19 → (10 ^ i ≤ 1000000000000000000) × (10 ^ (i + 1) ≤ 10000000000000000000)
short_powers i few = (pow-le-pow_right {n = 10} (omega arith) {i = i} {j = 18} (omega arith), pow-le-pow_right {n = 10} (omega arith) {i = i + 1} {j = 19} (omega arith))

module _ (text : List ℕ) (i value : ℕ) (within : i < length text) where
  -- the value so far and a digit are the value of one digit more
  pub value_more_by : is_ascii_digit (get_or text i 0) ≡ true → value ≡ digits_value 10 (take i text) → value < 10 ^ i
      → (value * 10 + (get_or text i 0 - 48) ≡ digits_value 10 (take (i + 1) text)) × (value * 10 + (get_or text i 0 - 48) < 10 ^ (i + 1))
  value_more_by is_digit so_far below =
      let digit = digit_is (get_or text i 0) is_digit in
      let more = digits_value_more 10 text i within in
      let power : 10 ^ (i + 1) ≡ 10 ^ i * 10 = rw add-one (pow-suc 10 i) in
      (ap (λ v. v * 10 + (get_or text i 0 - 48)) so_far ∙ ap (λ d. digits_value 10 (take i text) * 10 + d) (sym digit.0) ∙ sym more, rw power (omega (arith, digit.1)))

  -- so they are where all of the text are digits
  pub value_more : list_all is_ascii_digit text ≡ true → value ≡ digits_value 10 (take i text) → value < 10 ^ i
      → (value * 10 + (get_or text i 0 - 48) ≡ digits_value 10 (take (i + 1) text)) × (value * 10 + (get_or text i 0 - 48) < 10 ^ (i + 1))
  value_more all = value_more_by (digit_at text i within all)

  -- digits so far and one more are digits
  pub digits_more : list_all is_ascii_digit (take i text) ≡ true → is_ascii_digit (get_or text i 0) ≡ true → list_all is_ascii_digit (take (i + 1) text) ≡ true
  digits_more so_far is_digit = list_all_more is_ascii_digit text i 0 within ∙ (rw so_far is_digit)
