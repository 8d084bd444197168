use Rattle.held_calls.proofs.AskCounts.{one_settle}
use Rattle.held_calls.proofs.dialogues.one_settle_a_grant.Goals as goal

pub returns : goal.returns
returns c = one_settle
