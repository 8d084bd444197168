use Rattle.live_answers.proofs.Again.{heard_again}
use Rattle.live_answers.proofs.laws.logs_are_heard_again.Goals as goal

pub returns : goal.returns
returns c = heard_again
