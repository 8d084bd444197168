use Rattle.live_recovery.proofs.Recovering.{recovered}
use Rattle.live_recovery.proofs.laws.cut_off_runs_go_on.Goals as goal

pub returns : goal.returns
returns c = recovered c.logs_are_heard_again.ensures
