-- The operations of the service on their way to the gsmSSFs.
use Rattle.std.specs.Prelude.{◌+◌, ℕ, Option, Some, None, List, [], ◌∷◌, ◌++◌}
use Rattle.std.specs.List.{slice_get}
use Rattle.cap_values.specs.declared.operation.ScfOp.{ScfOp}
use Rattle.ssf_core.specs.Deliveries.{deliveries_at}
use Rattle.ssf_core.specs.declared.deliveries.Delivery.{Delivery}
use Rattle.run_values.specs.declared.post.Answer.{Answer}
use Rattle.run_values.specs.declared.post.Body.{Body}
use Rattle.run_values.specs.declared.post.Body.TheVariants as body
use Rattle.cap_values.specs.Orders.{operations_in}

-- operations that answer an item: they are for its call, and delivered a delay after its moment
abbrev pub deliveries_to : ℕ → List ScfOp → ℕ → Body → List Delivery
deliveries_to delay ops at (body.Ssf call msg) = deliveries_at (at + delay) call ops
deliveries_to delay ops at (body.Recharge account amount until) = []

-- the deliveries of an answer, none where its item isn't there
abbrev pub deliveries_for : ℕ → List ScfOp → Option (ℕ × Body) → List Delivery
deliveries_for delay ops None = []
deliveries_for delay ops (Some item) = deliveries_to delay ops item.0 item.1

-- the deliveries of answers, in order; the number of an answer is the place of its item
abbrev pub deliveries_of : ℕ → List (ℕ × Body) → List Answer → List Delivery
deliveries_of delay given [] = []
deliveries_of delay given (answer ∷ answers) =
    deliveries_for delay (operations_in answer.instructions) (slice_get given answer.number) ++ deliveries_of delay given answers
