use Rattle.ssf_core.proofs.LawLemmas.{reports_fit}
use Rattle.ssf_core.proofs.laws.each_report_fits.Goals as goal

pub returns : goal.returns
returns c = reports_fit
