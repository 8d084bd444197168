use Rattle.std.proofs.Common.{◌≡◌, ◌++◌, drop}
use Rattle.cap_values.specs.Orders.{operations_in}
use Rattle.ssf_core.specs.Deliveries.{deliveries_at}
use Rattle.ssf_core.proofs.deliveries.send.Given as goal

abbrev pub invariant-loop-op : goal.invariant-loop-op
invariant-loop-op l =
    l.initial.deliveries.items ++ deliveries_at l.at l.call (operations_in l.fn.instructions)
    ≡ l.deliveries.items ++ deliveries_at l.at l.call (drop l.op-index (operations_in l.fn.instructions))
