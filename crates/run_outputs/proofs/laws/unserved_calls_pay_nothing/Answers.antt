use Rattle.run_outputs.proofs.LawLemmas.{unserved_pay_nothing}
use Rattle.run_outputs.proofs.laws.unserved_calls_pay_nothing.Goals as goal

pub returns : goal.returns
returns c = unserved_pay_nothing
