use Rattle.account_core.proofs.LawLemmas.{no_negative}
use Rattle.account_core.proofs.laws.no_balance_is_negative.Goals as goal

pub returns : goal.returns
returns c = no_negative c.tariff_laws.ensures
