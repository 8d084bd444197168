-- The first seats of a turn account are all of its seats.
use Rattle.std.proofs.Common.{◌≡◌, ℕ, ◌+◌, List, [], ◌∷◌, true, length, length-append, map, refl, ap, ◌∙◌, arith, zero, suc}
use Rattle.std.specs.Prelude.{◌==◌, All}
use Rattle.std.proofs.lemmas.Bool.{and_from, eq-eqb}
use Rattle.std.proofs.lemmas.List.{length-map, map-append}
use Rattle.std.proofs.lemmas.List.Elements.{All-nil, All-push}
use Rattle.atomic_table.specs.Seated.{TableId}
use Rattle.account_core.specs.Ledger.{Ledger}
use Rattle.account_core.specs.Seats.{are_all, are_numbered}
use Rattle.turn_account.specs.TurnViews.{TurnSeatView, fresh_turn_seats}
use Rattle.account_core.proofs.Numbering.{numbered_push}

module _ (table : TableId) (view : Ledger) where
  abbrev fresh : ℕ → TurnSeatView
  fresh seat = record { table = table; number = seat; view = view }

  abbrev numbers : ℕ → List ℕ
  numbers seats = map (λ (s : TurnSeatView). s.number) (fresh_turn_seats table view seats)

  count : (seats : ℕ) → length (fresh_turn_seats table view seats) ≡ seats
  count zero = refl
  count (suc seats) = omega (arith, count seats, length-append (fresh_turn_seats table view seats) (fresh seats ∷ []))

  numbered : (seats : ℕ) → are_numbered 0 (numbers seats) ≡ true
  numbered zero = refl
  numbered (suc seats) =
      let last : seats ≡ 0 + length (numbers seats) = omega (arith, length-map (fresh_turn_seats table view seats) (λ (s : TurnSeatView). s.number), count seats) in
      ap (are_numbered 0) (map-append (λ (s : TurnSeatView). s.number) (fresh_turn_seats table view seats) (fresh seats ∷ []))
      ∙ numbered_push 0 (numbers seats) seats (numbered seats) last

  pub sights_are_all : (seats : ℕ) → are_all seats (numbers seats) ≡ true
  sights_are_all seats =
      let all : length (numbers seats) ≡ seats = length-map (fresh_turn_seats table view seats) (λ (s : TurnSeatView). s.number) ∙ count seats in
      and_from (length (numbers seats) == seats) (are_numbered 0 (numbers seats)) (eq-eqb _ seats all) (numbered seats)

  -- what is true of each of them
  pub sights_each : (P : TurnSeatView → Type 0) → ((seat : ℕ) → P (fresh seat)) → (seats : ℕ) → All P (fresh_turn_seats table view seats)
  sights_each P each zero = All-nil P
  sights_each P each (suc seats) = All-push P (fresh_turn_seats table view seats) (fresh seats) (sights_each P each seats) (each seats)
