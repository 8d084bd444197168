use Rattle.part_laws.proofs.OneWay.{one_way}
use Rattle.part_laws.proofs.one_way.timers_run_one_way.Goals as goal

pub returns : goal.returns
returns c = one_way
