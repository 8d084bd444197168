-- The first seats of an account are all of its seats.
use Rattle.std.proofs.Common.{◌≡◌, ℕ, ◌+◌, true, [], ◌∷◌, length, length-append, map, refl, ap, ◌∙◌, arith, zero, suc}
use Rattle.std.specs.Prelude.{◌==◌, All, Err, IfOk, Ok, Result}
use Rattle.std.proofs.lemmas.Bool.{and_from, eq-eqb}
use Rattle.std.proofs.lemmas.List.{length-map, map-append}
use Rattle.std.proofs.lemmas.List.Elements.{All-nil, All-push}
use Rattle.account_core.specs.Seats.{are_all, are_numbered}
use Rattle.account_core.proofs.Numbering.{numbered_push}
use Rattle.locked_account.specs.Seats.{SeatView, fresh_seats}

fresh_length : (account seats : ℕ) → length (fresh_seats account seats) ≡ seats
fresh_length account zero = refl
fresh_length account (suc seats) =
    omega (arith, fresh_length account seats, length-append (fresh_seats account seats) (record { account = account; number = seats; mine = [] } ∷ []))

fresh_numbered : (account seats : ℕ) → are_numbered 0 (map (λ seat. seat.number) (fresh_seats account seats)) ≡ true
fresh_numbered account zero = refl
fresh_numbered account (suc seats) =
    let seat : SeatView = record { account = account; number = seats; mine = [] } in
    let number = λ (place : SeatView). place.number in
    let count : seats ≡ 0 + length (map number (fresh_seats account seats)) =
    omega (arith, length-map (fresh_seats account seats) number, fresh_length account seats) in
    ap (are_numbered 0) (map-append number (fresh_seats account seats) (seat ∷ []))
    ∙ numbered_push 0 (map number (fresh_seats account seats)) seats (fresh_numbered account seats) count

pub fresh_are_all : (account seats : ℕ) → are_all seats (map (λ seat. seat.number) (fresh_seats account seats)) ≡ true
fresh_are_all account seats =
    let number = λ (place : SeatView). place.number in
    let count : length (map number (fresh_seats account seats)) ≡ seats = length-map (fresh_seats account seats) number ∙ fresh_length account seats in
    and_from (length (map number (fresh_seats account seats)) == seats) (are_numbered 0 (map number (fresh_seats account seats))) (eq-eqb _ seats count) (fresh_numbered account seats)

-- what is true of each of them
pub fresh_each : (P : SeatView → Type 0) (account : ℕ) → ((seat : ℕ) → P (record { account = account; number = seat; mine = [] })) → (seats : ℕ)
    → All P (fresh_seats account seats)
fresh_each P account each zero = All-nil P
fresh_each P account each (suc seats) =
    All-push P (fresh_seats account seats) (record { account = account; number = seats; mine = [] }) (fresh_each P account each seats) (each seats)

-- what two clauses of a success give together
pub both_ok : {T E : Type 0} (r : Result T E) (P Q R : T → Type 0) → ((x : T) → P x → Q x → R x) → IfOk r P → IfOk r Q → IfOk r R
both_ok (Ok x) P Q R gives p q = gives x p q
both_ok (Err e) P Q R gives p q = tt
