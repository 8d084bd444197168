use Rattle.held_calls.proofs.SettledOnce as settlings
use Rattle.held_calls.proofs.workers.reports_are_settled.Goals as goal

pub returns : goal.returns
returns c = settlings.reports_are_settled
