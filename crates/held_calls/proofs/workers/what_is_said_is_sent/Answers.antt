use Rattle.held_calls.proofs.AtRest.{said_is_sent}
use Rattle.held_calls.proofs.workers.what_is_said_is_sent.Goals as goal

pub returns : goal.returns
returns c = said_is_sent
