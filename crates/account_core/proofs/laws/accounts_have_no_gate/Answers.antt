use Rattle.account_core.proofs.Entering.{never_gated}
use Rattle.account_core.proofs.laws.accounts_have_no_gate.Goals as goal

pub returns : goal.returns
returns c = never_gated
