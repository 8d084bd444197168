use Rattle.std.proofs.Common.{sym}
use Rattle.table_core.specs.Rows.{rows_of}
use Rattle.tariff_core.specs.TariffTable.{bands_of, tariff_of}
use Rattle.table_core.proofs.Known.{at_known, if_known}
use Rattle.tariff_core.proofs.MidnightLemmas.{complete_from}
use Rattle.tariff_core.proofs.TableLemmas.{passed_on, refused_whole}
use Rattle.tariff_core.proofs.tariff.Tariff.read.Goals as goal

pub invariant_of-result : goal.invariant_of-result
invariant_of-result g c = record {
  complete = complete_from c.in_ok-bands.bands 2 c.in_ok-bands.bands (sym c.in-None.ensures);
  short = c.longest-longest.ensures.short;
  no_longer = c.longest-longest.ensures.no_longer;
}

pub returns-in_err-bands : goal.returns-in_err-bands
returns-in_err-bands g c = if_known _ _ (λ text known.
    let fault = c.in_err-bands.field-0.0 in
    passed_on c.from_residual.result fault (tariff_of (rows_of text)) c.from_residual.ensures.1
    (refused_whole fault.kind fault.row (bands_of (rows_of text)) (at_known _ _ text known c.in_err-bands.ensures)))
