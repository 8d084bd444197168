use Rattle.live_recovery.proofs.Recovering.{live_alike}
use Rattle.live_recovery.proofs.laws.live_runs_are_alike.Goals as goal

pub returns : goal.returns
returns c = live_alike
