-- A log that was cut off within its head.
use Rattle.std.proofs.Common.{◌≡◌, ◌≢◌, ◌++◌, ℕ, List, [], ◌∷◌, drop, length, sym, ◌∙◌, arith, append-nil}
use Rattle.live_answers.specs.Logs.{IsProperFront}

pub is_cut_off : (text head : List ℕ) → ((rest : List ℕ) → text ≢ head ++ rest) → head ≡ text ++ drop (length text) head → IsProperFront text head
is_cut_off text head otherwise begins = by_rest (drop (length text) head) begins
  where
    by_rest : (rest : List ℕ) → head ≡ text ++ rest → IsProperFront text head
    by_rest [] is = absurd (otherwise [] (sym (append-nil text) ∙ sym is ∙ sym (append-nil head)))
    by_rest (byte ∷ rest) is = record { rest = byte ∷ rest; begins = is; some = omega arith }
