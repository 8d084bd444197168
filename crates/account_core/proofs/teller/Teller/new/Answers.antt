use Rattle.account_core.proofs.Entering.{teller_new}
use Rattle.account_core.proofs.teller.Teller.new.Goals as goal

pub returns : goal.returns
returns c = teller_new c.args.opening c.args.until c.args.limit c.new.result c.new.ensures
