use Rattle.run_laws.proofs.Paying.{played_paid}
use Rattle.run_laws.proofs.answered.played_calls_have_paid.Goals as goal

pub returns : goal.returns
returns c = played_paid c.initial_dp_is_first.ensures c.records_sum_up.ensures c.unrouted_calls_pay_nothing.ensures c.calls_pay_their_route.ensures
