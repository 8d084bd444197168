use Rattle.live_recovery.proofs.Alone.{longer_alike}
use Rattle.live_recovery.proofs.laws.longer_runs_answer_alike.Goals as goal

pub returns : goal.returns
returns c = longer_alike
