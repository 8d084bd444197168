use Rattle.held_calls.proofs.InBooks.{lists_worked}
use Rattle.held_calls.proofs.runs.run_lists_are_worked.Goals as goal

pub returns : goal.returns
returns g c = lists_worked g.S.Shared.stood
