use Rattle.turn_account.proofs.Calls.{met_sits}
use Rattle.turn_account.proofs.account.TurnAccount.meet.Goals as goal

pub invariant_of-second : goal.invariant_of-second
invariant_of-second c =
    met_sits c.second.inside.chair.me c.hear.new.second.me c.compare_views.new.chair.me c.first.inside.chair.me.0 c.second.inside.number
    c.second.invariant c.hear.ensures.second c.compare_views.ensures.met c.compare_views.ensures.hands
