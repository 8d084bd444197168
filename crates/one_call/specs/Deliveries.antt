-- The operations of a driven call on their way to its gsmSSF.
use Rattle.std.specs.Prelude.{◌≡◌, ℕ, List, [], ◌∷◌, ◌++◌}
use Rattle.cap_values.specs.Orders.{Period, order_of, with_period}
use Rattle.cap_values.specs.declared.operation.ScfOp.{ScfOp}
use Rattle.ssf_core.specs.Deliveries.{deliveries_at}
use Rattle.ssf_core.specs.declared.deliveries.Delivery.{Delivery}

-- some operations were sent on their way, all to be delivered to one call at one moment
abbrev pub AreSent : ℕ → ℕ → List Delivery → List Delivery → Type 0
AreSent at call before after = (ops : List ScfOp) × (after ≡ before ++ deliveries_at at call ops)

-- the periods of the deliveries, in order
abbrev pub queued_in : List Delivery → List Period
queued_in [] = []
queued_in (delivery ∷ deliveries) = with_period (order_of delivery.op) (queued_in deliveries)
