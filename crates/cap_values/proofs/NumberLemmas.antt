-- Digits that were copied into a number.
use Rattle.std.proofs.Common.{◌≡◌, ◌≤◌, ◌-◌, ◌++◌, ℕ, List, length, take, drop, ap, ◌∙◌, replicate, Bool, true, arith}
use Rattle.std.proofs.lemmas.Bool.Decides.{nat_tests}
use Rattle.std.proofs.Math.Seq.{take-append_seam}
use Rattle.std.proofs.lemmas.List.{drop-replicate}
use Rattle.std.proofs.lemmas.Slice.{drop-append-drop}
use Rattle.std.specs.Prelude.{◌&&◌, nat_le}
use Rattle.cap_values.specs.Numbers.{is_number}

shorter : (n : ℕ) (digits : Bool) → (nat_le 1 n && nat_le n 15 && digits) ≡ true → n ≤ 15
shorter n digits number = grind (arith, nat_tests)

-- a number is short
pub short : (text : List ℕ) → is_number text ≡ true → length text ≤ 15
short text number = shorter (length text) _ number

-- nothing but zeros lies behind a text that was written over zeros
pub zeros-behind : (text written : List ℕ) → length text ≤ 15 → written ≡ text
    → drop (length text) (written ++ drop (length text) (replicate 15 0)) ≡ replicate (15 - length text) 0
zeros-behind text written short same =
    drop-append-drop (length text) (replicate 15 0) written (length text) (omega arith) (ap length same) ∙ drop-replicate (length text) 15 0

-- a number that was written is in front
pub number-front : (text written rest : List ℕ) → written ≡ text → is_number text ≡ true → is_number (take (length text) (written ++ rest)) ≡ true
number-front text written rest same number =
    ap (λ (w : List ℕ). is_number (take (length text) (w ++ rest))) same ∙ ap is_number (take-append_seam text rest) ∙ number
