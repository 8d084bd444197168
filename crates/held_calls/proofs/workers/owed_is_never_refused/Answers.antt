use Rattle.held_calls.proofs.Refusing.{never_refused}
use Rattle.runs_core.specs.Refusals.{WasAt}
use Rattle.held_calls.proofs.workers.owed_is_never_refused.Goals as goal

pub returns : goal.returns
returns g c = λ seats call alone. never_refused (WasAt g.S.Shared.was seats) call alone
