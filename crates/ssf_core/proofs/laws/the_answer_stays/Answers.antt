use Rattle.ssf_core.proofs.StayLemmas.{answer_stays}
use Rattle.ssf_core.proofs.laws.the_answer_stays.Goals as goal

pub returns : goal.returns
returns c = answer_stays
