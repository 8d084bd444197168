use Rattle.account_core.proofs.Tallying.{tallied_new}
use Rattle.account_core.proofs.tally.Tally.new.Goals as goal

pub returns : goal.returns
returns c = tallied_new c.args.opening c.args.until c.new.result c.requires c.new.ensures
