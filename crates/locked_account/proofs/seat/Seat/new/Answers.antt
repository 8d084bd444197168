use Rattle.locked_account.proofs.Roominess.{roomy_new}
use Rattle.locked_account.proofs.seat.Seat.new.Goals as goal

pub invariant_of-result : goal.invariant_of-result
invariant_of-result c = roomy_new c.new.result c.new-2.result c.new.ensures.items c.new-2.ensures
