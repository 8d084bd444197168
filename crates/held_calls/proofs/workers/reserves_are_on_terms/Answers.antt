use Rattle.held_calls.proofs.Reserving as reserving
use Rattle.held_calls.proofs.workers.reserves_are_on_terms.Goals as goal

pub returns : goal.returns
returns c = reserving.reserves_are_on_terms
