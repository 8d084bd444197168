use Rattle.held_calls.proofs.Going.{go_on}
use Rattle.held_calls.proofs.laws.paid_calls_go_on.Goals as goal
use Rattle.runs_core.specs.Refusals.{RefusesAt}

pub returns : goal.returns
returns g c = λ seats. go_on (RefusesAt g.S.Shared.was seats)
