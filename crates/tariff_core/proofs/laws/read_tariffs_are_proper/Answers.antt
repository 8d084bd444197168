use Rattle.tariff_core.proofs.Proper.{read_is_proper}
use Rattle.tariff_core.proofs.laws.read_tariffs_are_proper.Goals as goal

pub returns : goal.returns
returns c = read_is_proper
