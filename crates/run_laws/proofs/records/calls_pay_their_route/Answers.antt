use Rattle.run_laws.proofs.Routed.{calls_routed}
use Rattle.run_laws.proofs.records.calls_pay_their_route.Goals as goal

pub returns : goal.returns
returns g c = calls_routed g.S.Shared.stood c.tariff_laws.ensures c.reserves_are_in_the_books.ensures
