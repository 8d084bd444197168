use Rattle.part_laws.proofs.Fronts.{fronts_answered}
use Rattle.part_laws.proofs.laws.fronts_are_answered_alike.Goals as goal

pub returns : goal.returns
returns c = fronts_answered
