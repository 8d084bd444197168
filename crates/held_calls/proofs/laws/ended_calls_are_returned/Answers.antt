use Rattle.held_calls.proofs.Closing.{ended_returned}
use Rattle.held_calls.proofs.laws.ended_calls_are_returned.Goals as goal
use Rattle.runs_core.specs.Refusals.{RefusesAt}

pub returns : goal.returns
returns g c = λ seats. ended_returned (RefusesAt g.S.Shared.was seats)
