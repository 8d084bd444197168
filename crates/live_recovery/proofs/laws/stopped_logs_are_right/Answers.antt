use Rattle.live_recovery.proofs.Recovering.{stopped_right}
use Rattle.live_recovery.proofs.laws.stopped_logs_are_right.Goals as goal

pub returns : goal.returns
returns c = stopped_right c.logs_are_heard_again.ensures
