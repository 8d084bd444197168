use Rattle.ssf_core.proofs.InitialLemmas.{initial_first}
use Rattle.ssf_core.proofs.laws.initial_dp_is_first.Goals as goal

pub returns : goal.returns
returns c = initial_first
