use Rattle.held_calls.proofs.Holding.{calls_held}
use Rattle.held_calls.proofs.laws.calls_are_held.Goals as goal

pub returns : goal.returns
returns c = calls_held
