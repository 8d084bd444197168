-- The inputs that a trace takes, by names that other crates may use.
use Rattle.std.specs.Prelude.{ℕ}
use Rattle.cap_values.specs.declared.number.Number.{Number}
use Rattle.cap_values.specs.declared.operation.ScfOp.{ScfOp}
use Rattle.ssf_core.specs.declared.item.BcsmEvent.{BcsmEvent}
use Rattle.ssf_core.specs.declared.ssf.Input.{Input}
use Rattle.ssf_core.specs.declared.ssf.Input.TheVariants as input

-- the switch invokes it
abbrev pub invokes : Input
invokes = input.Invoke

-- a call triggers it, of this calling party to this called party
abbrev pub triggers : ℕ → Number → Number → Input
triggers call calling called = input.Trigger call calling called

-- the service sends an operation
abbrev pub operates : ScfOp → Input
operates op = input.Operate op

-- the call meets an event
abbrev pub meets : BcsmEvent → Input
meets event = input.Meet event
