use Rattle.run_laws.proofs.Ranges.{all_in_range}
use Rattle.run_laws.proofs.records.records_are_in_range.Goals as goal

pub returns : goal.returns
returns g c = all_in_range g.S.Shared.stood c.tariff_laws.ensures
