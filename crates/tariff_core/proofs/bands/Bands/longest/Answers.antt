use Rattle.std.proofs.Common.{◌≤◌, arith, length}
use Rattle.tariff_core.proofs.RangeLemmas.{each_row_at}
use Rattle.tariff_core.proofs.bands.Bands.longest.Goals as goal

pub returns-clause-no_longer : goal.returns-clause-no_longer
returns-clause-no_longer c =
    let rows = c.deref-row-items.result.now in
    rw (← c.self.view_is) (rw (← c.deref-row-items.ensures.value) (each_row_at rows (λ band. length band.prefix ≤ c.loop-row.longest)
    (λ k d below. c.loop-row.invariant.1 k d (omega (arith, below, c.loop-row-test.false, c.deref-row-items.ensures.len)))))
