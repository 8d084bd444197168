use Rattle.held_calls.proofs.Entering as entering
use Rattle.held_calls.proofs.workers.recharges_are_entered.Goals as goal

pub returns : goal.returns
returns c = entering.recharges_are_entered
