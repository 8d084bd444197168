use Rattle.held_calls.proofs.Going.{worked_settled}
use Rattle.held_calls.proofs.laws.worked_reports_are_settled.Goals as goal
use Rattle.runs_core.specs.Refusals.{RefusesAt}

pub returns : goal.returns
returns g c = λ seats. worked_settled (RefusesAt g.S.Shared.was seats)
