use Rattle.std.proofs.Common.{inr, refl}
use Rattle.runs_core.proofs.Verdicts.{routed_by}
use Rattle.runs_core.proofs.worker.begin.Goals as goal

pub returns : goal.returns
returns c =
    inr
    (record {
      called = c.in-InitialDp.called;
      is = rw (c.in-InitialDp.is, ← c.in-Some.ensures) refl;
      route = c.plan-route.result;
      routed =
          rw (← c.tariff.ensures, ← c.as_bytes.ensures)
          (routed_by c.tariff.result.now c.as_bytes.result.now c.args.at c.plan-route.result c.plan-route.ensures.none c.plan-route.ensures.route);
      begins = rw (← c.service.ensures) c.begin-turn.ensures;
    })
