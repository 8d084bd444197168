use Rattle.part_laws.proofs.OneRun.{scripts_one_run}
use Rattle.part_laws.proofs.laws.scripts_have_one_run.Goals as goal

pub returns : goal.returns
returns c = scripts_one_run c.timers_run_one_way.ensures
