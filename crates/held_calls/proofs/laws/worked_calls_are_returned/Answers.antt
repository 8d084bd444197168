use Rattle.held_calls.proofs.Going.{worked_returned}
use Rattle.held_calls.proofs.laws.worked_calls_are_returned.Goals as goal
use Rattle.runs_core.specs.Refusals.{RefusesAt}

pub returns : goal.returns
returns g c = λ seats. worked_returned (RefusesAt g.S.Shared.was seats)
