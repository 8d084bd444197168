use Rattle.std.proofs.Common.{rules}
use Rattle.turn_account.proofs.MeetLemmas.{compares}
use Rattle.turn_account.proofs.turn.compare_views.Goals as goal

pub load-requires : goal.load-requires
load-requires c = (search rules, search rules, compares _ _ _ _ c.requires.idle)
