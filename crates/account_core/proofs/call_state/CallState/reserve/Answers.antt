use Rattle.std.proofs.Common.{◌≡◌, ◌+◌, refl, true}
use Rattle.std.specs.Prelude.{◌==◌, ◌||◌, nat_lt}
use Rattle.std.proofs.lemmas.Bool.{le-ltb, lt-ltb, ne_eqb}
use Rattle.price_core.specs.RatesOf.{rates_of}
use Rattle.account_core.specs.Answers.{units_offered}
use Rattle.account_core.specs.Kept.{known_of}
use Rattle.account_core.proofs.CallStateLemmas.{afforded_covered}
use Rattle.account_core.proofs.call_state.CallState.reserve.Goals as goal
use Rattle.account_core.proofs.call_state.CallState.reserve.Goals.{then-units-least-via-then-units-least, then-units-least-via-else-units-least+then-units-eq0, then-units-least-via-else-units-least+else-units-eq0+then-is_forfeited, then-units-least-via-else-units-least+else-units-eq0+else-is_forfeited+then-late}

pub overflow_sub-result : goal.overflow_sub-result
overflow_sub-result c =
    afforded_covered c.afforded_is_greatest.ensures.covered (rates_of c.plan_in_force-plan.result) c.times-times.result c.args.wanted
    (c.args.available + c.taken.result) c.afford-units.result c.ceiling-held.result c.afford-units.ensures.exact c.ceiling-held.ensures.exact c.if-units-eq0.false

pub returns-then-units-least : goal.returns-then-units-least
unfolding units_offered
returns-then-units-least c =
    let units = c.afford-units.result in
    let least = c.args.least in
    let denied : (nat_lt units least || (units == 0) || (known_of c.args.self.now).forfeited || c.args.late) ≡ true = elim c.then-units-least.branch [
      | then-units-least-via-then-units-least w ↦ rw (lt-ltb units least w.if-units-least.true) refl
      | then-units-least-via-else-units-least+then-units-eq0 w ↦ rw (le-ltb units least w.if-units-least.false, w.if-units-eq0.true) refl
      | then-units-least-via-else-units-least+else-units-eq0+then-is_forfeited w ↦
          rw (le-ltb units least w.if-units-least.false, ne_eqb units 0 w.if-units-eq0.false, ← w.is_forfeited.ensures, w.if-is_forfeited.true) refl
      | then-units-least-via-else-units-least+else-units-eq0+else-is_forfeited+then-late w ↦
          rw (le-ltb units least w.if-units-least.false, ne_eqb units 0 w.if-units-eq0.false, ← w.is_forfeited.ensures, w.if-is_forfeited.false, w.if-late.true) refl
    ] in
    rw (← c.taken.ensures, ← c.times-times.ensures, ← c.plan_in_force-plan.ensures, ← c.afford-units.ensures.exact, denied) refl
