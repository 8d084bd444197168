use Rattle.account_core.proofs.Refusing.{of_their_kind}
use Rattle.account_core.proofs.laws.refusals_are_of_their_kind.Goals as goal

pub returns : goal.returns
returns c = of_their_kind c.accounts_have_no_gate.ensures
