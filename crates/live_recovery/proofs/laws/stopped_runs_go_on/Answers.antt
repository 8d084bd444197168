use Rattle.live_recovery.proofs.Recovering.{stopped_go_on}
use Rattle.live_recovery.proofs.laws.stopped_runs_go_on.Goals as goal

pub returns : goal.returns
returns c = stopped_go_on c.logs_are_heard_again.ensures
