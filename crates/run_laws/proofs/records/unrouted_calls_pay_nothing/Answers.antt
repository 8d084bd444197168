use Rattle.run_laws.proofs.Unrouted.{unrouted_pay_nothing}
use Rattle.run_laws.proofs.records.unrouted_calls_pay_nothing.Goals as goal

pub returns : goal.returns
returns g c = unrouted_pay_nothing g.S.Shared.stood c.reserves_are_in_the_books.ensures
