use Rattle.part_laws.proofs.OnePlay.{plays_one_way}
use Rattle.part_laws.proofs.one_way.plays_go_one_way.Goals as goal

pub returns : goal.returns
returns c = plays_one_way c.timers_run_one_way.ensures
