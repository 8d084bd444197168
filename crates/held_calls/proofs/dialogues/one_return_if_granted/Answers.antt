use Rattle.held_calls.proofs.AskCounts.{one_return}
use Rattle.held_calls.proofs.dialogues.one_return_if_granted.Goals as goal

pub returns : goal.returns
returns c = one_return
