use Rattle.held_calls.proofs.Closing.{taken_settled}
use Rattle.held_calls.proofs.laws.taken_reports_are_settled.Goals as goal
use Rattle.runs_core.specs.Refusals.{RefusesAt}

pub returns : goal.returns
returns g c = λ seats. taken_settled (RefusesAt g.S.Shared.was seats)
