use Rattle.std.proofs.Common.{refl}
use Rattle.cap_values.specs.declared.arming.Point.TheVariants as point
use Rattle.ssf_core.proofs.events.activate.Goals as goal

pub returns-clause-takes : goal.returns-clause-takes
returns-clause-takes c = rw c.in-Early.is
    (λ config t m. record {
      phase = refl;
      data' = λ items. c.answered.ensures.matches config.tccd t items m;
      sends = rw (m.same_modes point.Answer, ← c.mode_of.ensures) c.notify.ensures.items;
    })
