use Rattle.run_laws.proofs.ReadBack.{replies_read}
use Rattle.run_laws.proofs.printed.replies_are_read.Goals as goal

pub returns : goal.returns
returns c = replies_read c.printed_decimals_are_read.ensures.read
