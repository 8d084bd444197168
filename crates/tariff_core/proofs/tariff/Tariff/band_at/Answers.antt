use Rattle.std.proofs.Common.{◌≡◌}
use Rattle.tariff_core.specs.Digits.{text_of_digits}
use Rattle.tariff_core.proofs.PrefixLemmas.{some_latest}
use Rattle.tariff_core.proofs.tariff.Tariff.band_at.Goals as goal

pub unwrap-requires : goal.unwrap-requires
unwrap-requires c =
    let view : c.self.inside.bands ≡ c.args.self.now = c.self.view_is in
    some_latest c.args.self.now (text_of_digits c.args.prefix) c.args.now c.latest.result c.requires (rw view at c.latest.ensures.none)
