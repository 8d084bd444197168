use Rattle.account_core.proofs.Expiring.{nothing_late}
use Rattle.account_core.proofs.laws.nothing_is_granted_late.Goals as goal

pub returns : goal.returns
returns c = nothing_late
