use Rattle.live_recovery.proofs.Alone.{runs_alike}
use Rattle.live_recovery.proofs.laws.runs_are_alike.Goals as goal

pub returns : goal.returns
returns c = runs_alike
