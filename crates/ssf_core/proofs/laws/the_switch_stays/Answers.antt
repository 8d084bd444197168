use Rattle.ssf_core.proofs.StayLemmas.{switch_stays}
use Rattle.ssf_core.proofs.laws.the_switch_stays.Goals as goal

pub returns : goal.returns
returns c = switch_stays
