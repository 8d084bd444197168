-- Of two numbers that are printed alike, in few digits, each is the other.
use Rattle.std.proofs.Common.{◌≡◌, ◌<◌, ◌≤◌, ◌+◌, ◌*◌, ◌/◌, ◌%◌, ◌^◌, ◌∙◌, ℕ, zero, suc, Bool, true, false, Option, Some, None, List, [], ◌∷◌, length, refl, sym, ap, subst, arith}
use Rattle.std.specs.Prelude.{◌==◌, if◌then◌else◌}
use Rattle.std.specs.Fmt.{decimal, digit_glyph, digits, digits_onto}
use Rattle.std.specs.Str.Parse.{digits_value}
use Rattle.std.proofs.Math.Nat.{pow-suc}
use Rattle.std.proofs.lemmas.Bool.Decides.{nat_tests}
use Rattle.std.proofs.lemmas.Fmt.{decimal_is_IsNumeral_wide, length-decimal-le}
use Rattle.table_core.specs.Fields.{number_or_empty}

-- ---- digits

no_fewer : (k n : ℕ) (behind : List ℕ) → length behind ≤ length (digits_onto k 10 false n behind)
no_fewer zero n behind = omega arith
no_fewer (suc k) n behind = by_last (n / 10 == 0) (digits_onto k 10 false (n / 10) (digit_glyph false (n % 10) ∷ behind)) (no_fewer k (n / 10) (digit_glyph false (n % 10) ∷ behind))
  where
    by_last : (last : Bool) (later : List ℕ) → suc (length behind) ≤ length later → length behind ≤ length (if last then digit_glyph false (n % 10) ∷ behind else later)
    by_last true later more = omega arith
    by_last false later more = omega (arith, more)

some_more : (k n : ℕ) (behind : List ℕ) → length behind < length (digits_onto (suc k) 10 false n behind)
some_more k n behind = by_last (n / 10 == 0) (digits_onto k 10 false (n / 10) (digit_glyph false (n % 10) ∷ behind)) (no_fewer k (n / 10) (digit_glyph false (n % 10) ∷ behind))
  where
    by_last : (last : Bool) (later : List ℕ) → suc (length behind) ≤ length later → length behind < length (if last then digit_glyph false (n % 10) ∷ behind else later)
    by_last true later more = omega arith
    by_last false later more = omega (arith, more)

pow-pos : (k : ℕ) → 0 < 10 ^ k
pow-pos zero = omega arith
pow-pos (suc k) = let power : 10 ^ suc k ≡ 10 ^ k * 10 = pow-suc 10 k in omega (arith, power, pow-pos k)

few : (k n : ℕ) (behind : List ℕ) → length (digits_onto k 10 false n behind) < k + length behind → n < 10 ^ k
few zero n behind less = absurd (omega (arith, less))
few (suc k) n behind less =
    by_last (n / 10 == 0) refl (λ short. few k (n / 10) (digit_glyph false (n % 10) ∷ behind) short) less
  where
    power : 10 ^ suc k ≡ 10 ^ k * 10
    power = pow-suc 10 k

    some : 0 < 10 ^ k
    some = pow-pos k

    by_last : (last : Bool) → (n / 10 == 0) ≡ last
        → (length (digits_onto k 10 false (n / 10) (digit_glyph false (n % 10) ∷ behind)) < k + suc (length behind) → n / 10 < 10 ^ k)
        → length (if last then digit_glyph false (n % 10) ∷ behind else digits_onto k 10 false (n / 10) (digit_glyph false (n % 10) ∷ behind)) < suc k + length behind → n < 10 ^ suc k
    by_last true is later short = let none : n / 10 ≡ 0 = grind (arith, nat_tests, is) in omega (arith, none, power, some)
    by_last false is later short = let less = later (omega (arith, short)) in omega (arith, less, power)

decimal_some : (n : ℕ) → 0 < length (decimal n)
unfolding digits
decimal_some n = some_more 63 n []

few_digits : (n : ℕ) → length (decimal n) ≤ 20 → n < 10 ^ 64
unfolding digits
few_digits n short = few 64 n [] (omega (arith, short))

-- ---- short texts

-- a text that a number of 64 bits may have
abbrev pub IsShort : List ℕ → Type 0
IsShort text = length text ≤ 20

pub is_short : (n : ℕ) → n ≤ 18446744073709551615 → IsShort (decimal n)
is_short n small = length-decimal-le 20 n (omega arith) (omega (arith, small)) (omega (arith, small))

pub same_number : (n other : ℕ) → decimal n ≡ decimal other → IsShort (decimal n) → n ≡ other
same_number n other same short =
    sym (decimal_is_IsNumeral_wide n (few_digits n short)).1 ∙ ap (digits_value 10) same ∙ (decimal_is_IsNumeral_wide other (few_digits other (subst (λ text. length text ≤ 20) same short))).1

pub same_option : (found other : Option ℕ) → number_or_empty found ≡ number_or_empty other → IsShort (number_or_empty found) → found ≡ other
same_option None None same short = refl
same_option None (Some n) same short = absurd (omega (arith, ap length same, decimal_some n))
same_option (Some n) None same short = absurd (omega (arith, ap length same, decimal_some n))
same_option (Some n) (Some other) same short = ap (λ m. Some m) (same_number n other same short)
