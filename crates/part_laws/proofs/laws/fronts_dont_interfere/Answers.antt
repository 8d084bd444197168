use Rattle.part_laws.proofs.FrontsApart.{fronts_apart}
use Rattle.part_laws.proofs.laws.fronts_dont_interfere.Goals as goal

pub returns : goal.returns
returns c = fronts_apart
