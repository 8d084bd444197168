use Rattle.held_calls.proofs.Asking as asking
use Rattle.held_calls.proofs.workers.posts_are_handled.Goals as goal

pub returns : goal.returns
returns c = asking.posts_are_handled
