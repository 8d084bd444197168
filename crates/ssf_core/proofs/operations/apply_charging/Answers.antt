use Rattle.std.proofs.Common.{refl, append-nil, sym, arith}
use Rattle.ssf_core.proofs.InputLemmas.{charged_early}
use Rattle.ssf_core.proofs.operations.apply_charging.Goals as goal

pub returns-in_ok-charge_early-in-Initial-clause-takes :
    goal.returns-in_ok-charge_early-in-Initial-clause-takes
returns-in_ok-charge_early-in-Initial-clause-takes c = rw c.in-Initial.is (λ sent trace has.
    let said = c.charge_early.ensures in
    let was = c.in_ok-charge_early-in-Initial.was in
    let takes = charged_early trace c.in-Initial.early _ c.args.now c.args.charge _ was
    said.pending said.charged has.0 in
    rw takes.0 (record {
      phase = refl;
      data' = λ items. (takes.1 items, omega (arith, c.from.ensures));
      sends = sym (append-nil sent);
    }))

pub returns-in_ok-charge_early-in-Early-clause-takes :
    goal.returns-in_ok-charge_early-in-Early-clause-takes
returns-in_ok-charge_early-in-Early-clause-takes c = rw c.in-Early.is (λ sent trace has.
    let said = c.charge_early-in-Early.ensures in
    let was = c.in_ok-charge_early-in-Early.was in
    let takes = charged_early trace c.in-Early.early _ c.args.now c.args.charge _ was
    said.pending said.charged has in
    rw takes.0 (record { phase = refl; data' = takes.1; sends = sym (append-nil sent) }))
