use Rattle.std.proofs.Common.{rules}
use Rattle.turn_account.proofs.Turning.{looks}
use Rattle.turn_account.proofs.turn.look.Goals as goal

pub load-requires : goal.load-requires
load-requires c = (search rules, search rules, looks _ _ _ _ c.requires.waits)
