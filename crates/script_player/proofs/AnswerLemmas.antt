-- The answers of a round, taken one after the other.
use Rattle.std.proofs.Common.{◌≡◌, ◌+◌, ◌<◌, ℕ, zero, suc, Option, Some, List, [], ◌∷◌, ◌++◌, length, drop, slice_index_or, refl, arith, sym, ◌∙◌, append_assoc, add-one, drop-cons}
use Rattle.std.specs.List.{slice_get}
use Rattle.run_values.specs.declared.post.Answer.{Answer}
use Rattle.run_values.specs.declared.post.Body.{Body}
use Rattle.script_player.specs.Deliveries.{deliveries_for, deliveries_of}
use Rattle.ssf_core.specs.declared.deliveries.Delivery.{Delivery}
use Rattle.cap_values.specs.Orders.{operations_in}

pub slice_get-at : {X : Type 0} (xs : List X) (k : ℕ) (x : X) → k < length xs → x ≡ slice_index_or xs k x → slice_get xs k ≡ Some x
slice_get-at [] k x within is = absurd (omega arith)
slice_get-at (y ∷ xs) zero x within is = rw (← is) refl
slice_get-at (y ∷ xs) (suc k) x within is = slice_get-at xs k x (omega arith) is

-- one more answer is taken
pub deliveries_of-step : (delay k : ℕ) (given : List (ℕ × Body)) (answers : List Answer) (answer : Answer) (found : Option (ℕ × Body)) (all before after : List Delivery)
    → k < length answers → answer ≡ slice_index_or answers k answer → slice_get given answer.number ≡ found → all ≡ before ++ deliveries_of delay given (drop k answers)
    → after ≡ before ++ deliveries_for delay (operations_in answer.instructions) found → all ≡ after ++ deliveries_of delay given (drop (k + 1) answers)
deliveries_of-step delay k given answers answer found all before after within is lookup whole sent =
    let first : deliveries_of delay given (drop k answers) ≡ deliveries_for delay (operations_in answer.instructions) found ++ deliveries_of delay given (drop (k + 1) answers) =
    rw (add-one, drop-cons answers k answer within, ← is, lookup) refl in
    whole ∙ rw (first, sent) (sym (append_assoc before (deliveries_for delay (operations_in answer.instructions) found) (deliveries_of delay given (drop (k + 1) answers))))
