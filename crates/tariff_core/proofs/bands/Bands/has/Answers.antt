use Rattle.std.proofs.Common.{arith, ◌∙◌}
use Rattle.tariff_core.specs.Tariff.{Indexes}
use Rattle.tariff_core.proofs.IndexLemmas.{finds_at}
use Rattle.tariff_core.proofs.RangeLemmas.{band_key_at}
use Rattle.tariff_core.proofs.bands.Bands.has.Goals as goal

pub returns : goal.returns
returns c =
    let indexed : Indexes c.self.inside.by_days c.self.inside.index c.args.self.now = rw (← c.self.view_is) c.self.invariant.indexed in
    c.contains_key.ensures ∙ finds_at c.self.inside.by_days c.self.inside.index c.args.self.now (band_key_at c.args.prefix c.key_of-day.result 0) 1 indexed
    (record { low = omega arith; high = omega arith; key = c.key_of-day.ensures })
