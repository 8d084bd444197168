-- Numbers of seats that go on by ones.
use Rattle.std.proofs.Common.{◌≡◌, ℕ, ◌+◌, ◌<◌, true, List, [], ◌∷◌, ◌++◌, length, map, refl, arith, zero, suc}
use Rattle.std.specs.Prelude.{◌==◌, slice_index_or}
use Rattle.std.proofs.lemmas.Bool.{and_from, eq-eqb, eqb-true, and_parts}
use Rattle.account_core.specs.Seats.{are_numbered}

pub numbered_at : {T : Type 0} (number : T → ℕ) (first : ℕ) (seats : List T) (k : ℕ) (d : T) → are_numbered first (map number seats) ≡ true → k < length seats
    → number (slice_index_or seats k d) ≡ first + k
numbered_at number first [] k d are within = absurd (omega (arith, within))
numbered_at number first (seat ∷ seats) zero d are within =
    let here : number seat ≡ first = eqb-true (number seat) first (and_parts (number seat == first) (are_numbered (first + 1) (map number seats)) are).0 in
    omega (arith, here)
numbered_at number first (seat ∷ seats) (suc k) d are within =
    let rest : number (slice_index_or seats k d) ≡ first + 1 + k =
    numbered_at number (first + 1) seats k d (and_parts (number seat == first) (are_numbered (first + 1) (map number seats)) are).1 (omega (arith, within)) in
    omega (arith, rest)

pub numbered_push : (first : ℕ) (numbers : List ℕ) (last : ℕ) → are_numbered first numbers ≡ true → last ≡ first + length numbers
    → are_numbered first (numbers ++ last ∷ []) ≡ true
numbered_push first [] last are is =
    let same : last ≡ first = omega (arith, is) in
    and_from (last == first) true (eq-eqb last first same) refl
numbered_push first (number ∷ numbers) last are is =
    let parts = and_parts (number == first) (are_numbered (first + 1) numbers) are in
    let next : last ≡ first + 1 + length numbers = omega (arith, is) in
    and_from (number == first) (are_numbered (first + 1) (numbers ++ last ∷ [])) parts.0 (numbered_push (first + 1) numbers last parts.1 next)
