-- What the gsmSSF is given next.
use Rattle.std.specs.Prelude.{◌≡◌, ℕ, Some, None, List}
use Rattle.ssf_core.specs.declared.item.BcsmEvent.{BcsmEvent}
use Rattle.ssf_core.specs.Deliveries.{TakesDue}
use Rattle.one_call.specs.Scripts.{TakesEvent}
use Rattle.ssf_core.specs.declared.deliveries.Delivery.{Delivery}

-- a delivery, an event, or the time alone
pub data Given : Type 0 where
  Delivers : Delivery → Given
  Meets : BcsmEvent → Given
  Waits : Given

-- the first delivery where it is due by now, else the first event where it is, else the time alone
abbrev pub IsNextGiven : ℕ → List Delivery → List (ℕ × BcsmEvent) → Given → List Delivery → List (ℕ × BcsmEvent) → Type 0
IsNextGiven now deliveries script (Delivers delivery) after left = TakesDue now deliveries (Some delivery) after × (left ≡ script)
IsNextGiven now deliveries script (Meets event) after left = TakesDue now deliveries None after × TakesEvent now script (Some event) left
IsNextGiven now deliveries script Waits after left = TakesDue now deliveries None after × TakesEvent now script None left
