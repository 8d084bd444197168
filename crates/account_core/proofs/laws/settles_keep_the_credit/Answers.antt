use Rattle.account_core.proofs.LawLemmas.{settle_keeps}
use Rattle.account_core.proofs.laws.settles_keep_the_credit.Goals as goal

pub returns : goal.returns
returns c = settle_keeps c.tariff_laws.ensures
