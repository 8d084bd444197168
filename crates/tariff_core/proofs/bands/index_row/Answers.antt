use Rattle.std.proofs.Common.{◌∙◌, sym}
use Rattle.std.specs.BTreeMap.{Updates}
use Rattle.std.specs.Prelude.{Some}
use Rattle.tariff_core.specs.BandKeys.{by_band_key}
use Rattle.tariff_core.proofs.EnteringLemmas.{entered_all, entered_more, entered_not, none_entered}
use Rattle.tariff_core.proofs.RangeLemmas.{band_key_at}
use Rattle.tariff_core.proofs.bands.index_row.Goals as goal
use Rattle.tariff_core.proofs.bands.index_row.Goals.{then-counts_on+in_ok-insert, else-counts_on}

pub loop-day-init : goal.loop-day-init
loop-day-init c = none_entered c.key_days-first.result.0 c.args.index.now c.args.row

pub loop-day-preserved : goal.loop-day-preserved
loop-day-preserved c = elim c.if-counts_on.branch [
  | then-counts_on+in_ok-insert w ↦
      let updates : Updates by_band_key c.loop-day.index w.insert.new.self (band_key_at c.args.row.prefix c.loop-day.day c.args.row.start) (Some c.args.row) =
      rw w.key.ensures at w.in_ok-insert.ensures.updates in
      rw w.index-is (entered_more c.key_days-first.result.0 c.loop-day.day c.args.row c.args.index.now c.loop-day.index w.insert.new.self c.loop-day.auto.day
      (sym c.counts_on.ensures ∙ w.if-counts_on.true) c.loop-day.invariant updates)
  | else-counts_on w ↦
      rw w.index-is (entered_not c.key_days-first.result.0 c.loop-day.day c.args.row c.args.index.now c.loop-day.index (sym c.counts_on.ensures ∙ w.if-counts_on.false) c.loop-day.invariant)
]

pub returns : goal.returns
returns c =
    entered_all c.args.by_days c.key_days-first.result.0 c.key_days-first.result.1 c.loop-day.day c.args.row c.args.index.now c.loop-day.index c.key_days-first.ensures.first c.key_days-first.ensures.end
    c.loop-day-test.false c.requires c.loop-day.invariant
