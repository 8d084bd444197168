use Rattle.std.proofs.Common.{◌≡◌, ◌+◌, ◌∙◌, ap, sym, arith}
use Rattle.tariff_core.specs.TariffTable.{without_midnight}
use Rattle.tariff_core.proofs.MidnightLemmas.{ends, goes_on, stops_at}
use Rattle.tariff_core.proofs.bands.Bands.without_midnight.Goals as goal

pub loop-position-init : goal.loop-position-init
loop-position-init c = rw c.deref-row-items.ensures.value (ap (without_midnight c.args.self.now 2) (sym c.self.view_is))

pub returns-then-not-has_midnights : goal.returns-then-not-has_midnights
returns-then-not-has_midnights c =
    sym (c.loop-position.invariant ∙ stops_at c.args.self.now c.deref-row-items.result.now c.loop-position.position (c.loop-position.position + 2)
    c.row-item.result c.loop-position-test.true c.row-item.is (sym c.has_midnights.ensures ∙ c.if-not-has_midnights.true))

pub loop-position-preserved : goal.loop-position-preserved
loop-position-preserved c =
    let next : c.loop-position.position + 2 + 1 ≡ c.loop-position.position + 1 + 2 = omega arith in
    rw (← next) (c.loop-position.invariant ∙ goes_on c.args.self.now c.deref-row-items.result.now c.loop-position.position (c.loop-position.position + 2)
    c.row-item.result c.loop-position-test.true c.row-item.is (sym c.has_midnights.ensures ∙ c.if-not-has_midnights.false))

pub returns : goal.returns
returns c =
    sym (c.loop-position.invariant ∙ ends c.args.self.now c.deref-row-items.result.now c.loop-position.position (c.loop-position.position + 2) c.loop-position-test.false)
