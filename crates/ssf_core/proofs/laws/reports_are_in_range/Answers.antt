use Rattle.ssf_core.proofs.RangeLemmas.{reports_in_range}
use Rattle.ssf_core.proofs.laws.reports_are_in_range.Goals as goal

pub returns : goal.returns
returns c = reports_in_range
