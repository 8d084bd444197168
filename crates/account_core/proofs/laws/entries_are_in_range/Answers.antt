use Rattle.account_core.proofs.Ranging.{in_range}
use Rattle.account_core.proofs.laws.entries_are_in_range.Goals as goal

pub returns : goal.returns
returns c = in_range c.tariff_laws.ensures
