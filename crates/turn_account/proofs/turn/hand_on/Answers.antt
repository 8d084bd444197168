use Rattle.std.proofs.Common.{rules}
use Rattle.turn_account.proofs.Turning.{hands}
use Rattle.turn_account.proofs.turn.hand_on.Goals as goal

pub fetch_add-requires : goal.fetch_add-requires
fetch_add-requires c = (search rules, search rules, hands _ _ _ _ c.requires.serving c.requires.hands)
