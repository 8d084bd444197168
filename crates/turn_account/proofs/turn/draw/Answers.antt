use Rattle.std.proofs.Common.{rules}
use Rattle.turn_account.proofs.Turning.{draws}
use Rattle.turn_account.proofs.turn.draw.Goals as goal

pub fetch_add-requires : goal.fetch_add-requires
fetch_add-requires c = (search rules, search rules, draws _ _ _ _ c.requires.idle)
