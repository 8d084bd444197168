use Rattle.run_laws.proofs.ReadBack.{operations_read}
use Rattle.run_laws.proofs.printed.operations_are_read.Goals as goal

pub returns : goal.returns
returns c = operations_read c.printed_decimals_are_read.ensures.read
