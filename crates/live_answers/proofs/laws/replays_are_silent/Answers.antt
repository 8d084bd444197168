use Rattle.live_answers.proofs.Silence.{replays_silent}
use Rattle.live_answers.proofs.laws.replays_are_silent.Goals as goal

pub returns : goal.returns
returns c = replays_silent
