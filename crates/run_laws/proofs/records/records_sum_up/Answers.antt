use Rattle.run_laws.proofs.Totals.{records_total}
use Rattle.run_laws.proofs.records.records_sum_up.Goals as goal

pub returns : goal.returns
returns g c = records_total g.S.Shared.stood c.reserves_are_in_the_books.ensures
