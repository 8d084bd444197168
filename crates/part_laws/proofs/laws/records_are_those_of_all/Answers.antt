use Rattle.part_laws.proofs.Records.{records_alike}
use Rattle.part_laws.proofs.laws.records_are_those_of_all.Goals as goal

pub returns : goal.returns
returns c = records_alike
