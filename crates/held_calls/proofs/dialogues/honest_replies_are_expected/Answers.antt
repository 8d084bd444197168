use Rattle.held_calls.proofs.Honest.{honest_expected}
use Rattle.held_calls.proofs.dialogues.honest_replies_are_expected.Goals as goal

pub returns : goal.returns
returns c = honest_expected
