use Rattle.std.proofs.Common.{rules}
use Rattle.account_core.specs.Answers.{accepted_times}
use Rattle.account_core.proofs.call_state.CallState.settle.Goals as goal

pub returns-in-Fresh : goal.returns-in-Fresh
unfolding accepted_times
returns-in-Fresh c = search rules
