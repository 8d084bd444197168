use Rattle.live_recovery.proofs.Printing.{restarts_print}
use Rattle.live_recovery.proofs.laws.restarts_print_the_rest.Goals as goal

pub returns : goal.returns
returns c = restarts_print c.replays_are_silent.ensures
