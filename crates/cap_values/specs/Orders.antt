-- Operations as plain data, which definitions can write down.
use Rattle.std.specs.Prelude.{ℕ, Bool, Option, List, [], ◌∷◌}
use Rattle.cap_values.specs.declared.arms.Arms.{Arms}
use Rattle.cap_values.specs.declared.instructions.Instructions.{Instructions}
use Rattle.cap_values.specs.declared.instructions.Instructions.TheVariants as instructions
use Rattle.cap_values.specs.declared.operation.ScfOp.{ScfOp}
use Rattle.cap_values.specs.declared.operation.ScfOp.TheVariants.{RequestReport, ApplyCharging, Continue, ReleaseCall}

-- watch points, pay for a period (its units of 100 ms, the seconds to the switch, whether the call ends with it), go on, release with a cause
pub data Order : Type 0 where
  Watch : Arms → Order
  Pay : ℕ → Option ℕ → Bool → Order
  GoOn : Order
  Release : ℕ → Order

-- what an operation says
abbrev pub order_of : ScfOp → Order
order_of (RequestReport arms) = Watch arms
order_of (ApplyCharging charge) = Pay charge.period charge.switch charge.release
order_of Continue = GoOn
order_of (ReleaseCall cause) = Release cause.value

-- what operations say, in order
abbrev pub orders_of : List ScfOp → List Order
orders_of [] = []
orders_of (op ∷ ops) = order_of op ∷ orders_of ops

-- the operations of instructions, in order
abbrev pub operations_in : Instructions → List ScfOp
operations_in instructions.Nothing = []
operations_in instructions.GoOn = Continue ∷ []
operations_in (instructions.Release cause) = ReleaseCall cause ∷ []
operations_in (instructions.FirstPeriod arms charge) = RequestReport arms ∷ ApplyCharging charge ∷ Continue ∷ []
operations_in (instructions.FurtherPeriod charge) = ApplyCharging charge ∷ []

-- what instructions say, in order
abbrev pub orders_in : Instructions → List Order
orders_in said = orders_of (operations_in said)

-- the period of an ApplyCharging, in units of 100 ms, and the seconds to its switch, if it has one
pub record Period : Type 0 where
  pub units : ℕ
  pub switch : Option ℕ

-- the period of an operation, if it is an ApplyCharging, before those of later operations
abbrev pub with_period : Order → List Period → List Period
with_period (Watch arms) later = later
with_period (Pay period switch release) later = record { units = period; switch = switch } ∷ later
with_period GoOn later = later
with_period (Release cause) later = later

-- the periods of operations, in order
abbrev pub periods_in : List Order → List Period
periods_in [] = []
periods_in (order ∷ orders) = with_period order (periods_in orders)
