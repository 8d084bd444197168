use Rattle.held_calls.proofs.Asking as asking
use Rattle.held_calls.proofs.workers.calls_are_reserved.Goals as goal

pub returns : goal.returns
returns c = asking.calls_are_reserved
