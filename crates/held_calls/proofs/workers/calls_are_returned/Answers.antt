use Rattle.held_calls.proofs.ReturnedOnce as returnings
use Rattle.held_calls.proofs.workers.calls_are_returned.Goals as goal

pub returns : goal.returns
returns c = returnings.calls_are_returned
