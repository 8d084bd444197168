use Rattle.rated_records.proofs.Undiffering.{undiffering}
use Rattle.rated_records.proofs.laws.records_have_no_difference.Goals as goal

pub returns : goal.returns
returns g c = undiffering g.S.Shared.stood c.calls_pay_their_route.ensures c.records_are_in_range.ensures
