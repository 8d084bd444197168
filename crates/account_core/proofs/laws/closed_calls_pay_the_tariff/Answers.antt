use Rattle.account_core.proofs.LawLemmas.{closed_pay, times_reported}
use Rattle.account_core.proofs.laws.closed_calls_pay_the_tariff.Goals as goal

pub returns : goal.returns
returns c = record { paid = closed_pay c.tariff_laws.ensures; times = times_reported }
