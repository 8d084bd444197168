use Rattle.csv.specs.Records.{fields_of}
use Rattle.tariff_core.specs.Tariff.{band_of}
use Rattle.tariff_core.proofs.TableLemmas.{without_days}
use Rattle.tariff_core.proofs.bands.judge.Goals as goal

pub is_repeated-requires : goal.is_repeated-requires
is_repeated-requires c none = without_days c.args.header (fields_of c.args.fields.now) (band_of c.in_ok-row.row) none c.in_ok-row.ensures
