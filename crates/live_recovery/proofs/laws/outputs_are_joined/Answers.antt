use Rattle.live_recovery.proofs.Joining.{outputs_joined}
use Rattle.live_recovery.proofs.laws.outputs_are_joined.Goals as goal

pub returns : goal.returns
returns c = outputs_joined c.logs_are_heard_again.ensures
