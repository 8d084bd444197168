-- Seats that have ended, in an account that is closed.
use Rattle.std.proofs.Common.{◌≡◌, ◌<◌, ◌+◌, ℕ, true, List, [], ◌∷◌, ◌++◌, length, map, refl, sym, ap, ◌∙◌, arith, subst, zero, suc}
use Rattle.std.specs.Prelude.{◌==◌, All, slice_index_or}
use Rattle.std.proofs.lemmas.Bool.{and_from, eqb-true, and_parts}
use Rattle.std.proofs.lemmas.List.{get_or-map, length-map}
use Rattle.account_core.specs.Ledger.{Ledger}
use Rattle.turn_account.specs.Ended.{HasEnded, HaveEnded}
use Rattle.account_core.specs.Own.{IsMerged, own}
use Rattle.account_core.specs.Seats.{are_numbered}
use Rattle.turn_account.specs.TurnViews.{TurnSeatView, own_of}
use Rattle.account_core.proofs.Numbering.{numbered_at}

-- the seat at a place among those that have ended
pub ended_at : (account : Ledger) (first : ℕ) (lasts : List Ledger) (k : ℕ) (d : Ledger) → HaveEnded account first lasts → k < length lasts
    → HasEnded account (first + k) (slice_index_or lasts k d)
ended_at account first [] k d have within = absurd (omega (arith, within))
ended_at account first (last ∷ lasts) zero d have within = subst (λ (n : ℕ). HasEnded account n last) (omega arith) have.0
ended_at account first (last ∷ lasts) (suc k) d have within =
    subst (λ (n : ℕ). HasEnded account n (slice_index_or lasts k d)) (omega arith) (ended_at account (first + 1) lasts k d have.1 (omega (arith, within)))

-- ---- the last seat of all

numbered_first : {T : Type 0} (number : T → ℕ) (first : ℕ) (seats : List T) (last : T) → are_numbered first (map number (seats ++ last ∷ [])) ≡ true
    → are_numbered first (map number seats) ≡ true
numbered_first number first [] last are = refl
numbered_first number first (seat ∷ seats) last are =
    let parts = and_parts (number seat == first) (are_numbered (first + 1) (map number (seats ++ last ∷ []))) are in
    and_from (number seat == first) (are_numbered (first + 1) (map number seats)) parts.0 (numbered_first number (first + 1) seats last parts.1)

numbered_next : {T : Type 0} (number : T → ℕ) (first : ℕ) (seats : List T) (last : T) → are_numbered first (map number (seats ++ last ∷ [])) ≡ true
    → number last ≡ first + length seats
numbered_next number first [] last are =
    let here : number last ≡ first = eqb-true (number last) first (and_parts (number last == first) true are).0 in
    omega (arith, here)
numbered_next number first (seat ∷ seats) last are =
    let parts = and_parts (number seat == first) (are_numbered (first + 1) (map number (seats ++ last ∷ []))) are in
    let rest : number last ≡ first + 1 + length seats = numbered_next number (first + 1) seats last parts.1 in
    omega (arith, rest)

pub numbered_last : {T : Type 0} (number : T → ℕ) (seats : List T) (last : T) → are_numbered 0 (map number (seats ++ last ∷ [])) ≡ true
    → (are_numbered 0 (map number seats) ≡ true) × (number last ≡ length seats)
numbered_last number seats last are = (numbered_first number 0 seats last are, omega (arith, numbered_next number 0 seats last are))

-- ---- what is closed merges the seats' own entries

pub merged_closed : (account : Ledger) (seats : List TurnSeatView) → are_numbered 0 (map (λ (s : TurnSeatView). s.number) seats) ≡ true
    → HaveEnded account 0 (map (λ (s : TurnSeatView). s.view) seats) → All (λ entry. entry.seat < length (map (λ (s : TurnSeatView). s.view) seats)) account.history
    → (d : TurnSeatView) → IsMerged account.history (map own_of seats)
merged_closed account seats numbered have others d =
    let views = length-map seats (λ (s : TurnSeatView). s.view) in
    let lists = length-map seats own_of in
    record {
      each = λ k within.
          let here : k < length seats = omega (arith, within, lists) in
          let there : k < length (map (λ (s : TurnSeatView). s.view) seats) = omega (arith, here, views) in
          let seat = slice_index_or seats k d in
          let number : seat.number ≡ k = omega (arith, numbered_at (λ (s : TurnSeatView). s.number) 0 seats k d numbered here) in
          let last : HasEnded account k seat.view =
          subst (HasEnded account k) (get_or-map (λ (s : TurnSeatView). s.view) seats k d d.view here)
          (subst (λ (n : ℕ). HasEnded account n (slice_index_or (map (λ (s : TurnSeatView). s.view) seats) k d.view)) (omega arith)
          (ended_at account 0 (map (λ (s : TurnSeatView). s.view) seats) k d.view have there)) in
          sym last.own ∙ (ap (λ (n : ℕ). own n seat.view.history) (sym number) ∙ sym (get_or-map own_of seats k d [] here));
      no_others = λ k e within. let less = others k e within in omega (arith, less, views, lists);
    }

-- what is so of each seat that has ended is so of all of these
pub each_closed : (P : Ledger → Type 0) (account : Ledger) → ((number : ℕ) (last : Ledger) → HasEnded account number last → P last)
    → (first : ℕ) (seats : List TurnSeatView) → HaveEnded account first (map (λ (s : TurnSeatView). s.view) seats) → All (λ (s : TurnSeatView). P s.view) seats
each_closed P account each first [] have k d within = absurd (omega (arith, within))
each_closed P account each first (seat ∷ seats) have zero d within = each first seat.view have.0
each_closed P account each first (seat ∷ seats) have (suc k) d within = each_closed P account each (first + 1) seats have.1 k d (omega (arith, within))

-- ---- the first seat of those that are left

-- it has the number that is next, and the others are numbered after it
pub numbered_on : {T : Type 0} (number : T → ℕ) (first : ℕ) (seats rest : List T) (seat : T) → seats ≡ seat ∷ rest → are_numbered first (map number seats) ≡ true
    → (number seat ≡ first) × (are_numbered (first + 1) (map number rest) ≡ true)
numbered_on number first seats rest seat is are =
    let parts = and_parts (number seat == first) (are_numbered (first + 1) (map number rest)) (rw is at are) in
    (eqb-true (number seat) first parts.0, parts.1)
