-- The operations of the service on their way to gsmSSFs.
use Rattle.std.specs.Prelude.{◌≡◌, ◌<◌, ◌≤◌, ℕ, Option, Some, None, List, [], ◌∷◌}
use Rattle.std.specs.Option.{ForSome}
use Rattle.cap_values.specs.declared.operation.ScfOp.{ScfOp}
use Rattle.ssf_core.specs.declared.deliveries.Delivery.{Delivery}

-- operations that are all delivered to one call at one moment
abbrev pub deliveries_at : ℕ → ℕ → List ScfOp → List Delivery
deliveries_at at call [] = []
deliveries_at at call (op ∷ ops) = record { at = at; call = call; op = op } ∷ deliveries_at at call ops

-- when the first delivery is
abbrev pub next_delivery : List Delivery → Option ℕ
next_delivery [] = None
next_delivery (delivery ∷ deliveries) = Some delivery.at

-- the first delivery is taken, where there is one that is due by now
abbrev pub TakesDue : ℕ → List Delivery → Option Delivery → List Delivery → Type 0
TakesDue now before None after = (after ≡ before) × ForSome (next_delivery before) (λ at. now < at)
TakesDue now before (Some delivery) after = (delivery.at ≤ now) × (before ≡ delivery ∷ after)
