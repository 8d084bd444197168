use Rattle.account_core.proofs.Keeping.{kept_new}
use Rattle.account_core.proofs.account.Account.new.Goals as goal

pub invariant_of-result : goal.invariant_of-result
invariant_of-result c = kept_new c.args.opening c.args.until c.args.limit c.new.result c.new-2.result c.new.ensures.items c.new-2.ensures
