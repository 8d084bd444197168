use Rattle.std.proofs.Common.{◌≡◌, ◌∙◌, ℕ, List, true, sym, subst, arith}
use Rattle.tariff_core.specs.Bands.{has_midnights}
use Rattle.tariff_core.specs.Digits.{text_of_digits}
use Rattle.tariff_core.proofs.PrefixLemmas.{complete_prefix, is_longest, no_route, none_longer_first, none_longer_next}
use Rattle.tariff_core.proofs.tariff.Tariff.longest_prefix.Goals as goal
use Rattle.tariff_core.proofs.tariff.Tariff.longest_prefix.Goals.{else-loop-length-test, then-loop-length-test+else-has+else-length-gt0}
use Rattle.tariff_core.specs.Routes.{IsPrefixFor}

pub loop-length-init : goal.loop-length-init
loop-length-init c = none_longer_first c.args.self.now c.args.called.now c.self.inside.longest c.min-length.result (rw (← c.self.view_is) c.self.invariant.no_longer) c.min-length.ensures

pub returns-then-has-clause-prefix : goal.returns-then-has-clause-prefix
returns-then-has-clause-prefix c =
    let view : c.self.inside.bands ≡ c.args.self.now = c.self.view_is in
    let Is : List ℕ → Type 0 = λ digits. IsPrefixFor c.args.self.now c.args.called.now digits in
    subst Is c.new.ensures (is_longest c.args.self.now c.args.called.now (text_of_digits c.new.result) c.loop-length.length c.new.ensures
    (omega (arith, c.min-length.ensures)) (rw (← view) (sym c.has.ensures ∙ c.if-has.true)) c.loop-length.invariant)

pub returns-then-has-clause-midnight : goal.returns-then-has-clause-midnight
returns-then-has-clause-midnight c =
    let view : c.self.inside.bands ≡ c.args.self.now = c.self.view_is in
    let Has : List ℕ → Type 0 = λ digits. has_midnights digits c.args.self.now ≡ true in
    subst Has c.new.ensures (complete_prefix c.args.self.now (text_of_digits c.new.result) (rw (← view) c.self.invariant.complete) (rw (← view) (sym c.has.ensures ∙ c.if-has.true)))

pub loop-length-preserved : goal.loop-length-preserved
loop-length-preserved c =
    let view : c.self.inside.bands ≡ c.args.self.now = c.self.view_is in
    none_longer_next c.args.self.now c.args.called.now (text_of_digits c.new.result) c.loop-length.length c.new.ensures
    (rw (← view) c.self.invariant.complete) (rw (← view) (sym c.has.ensures ∙ c.if-has.false)) c.loop-length.invariant

pub returns-clause-none : goal.returns-clause-none
returns-clause-none c = elim c.loop-length-test.branch [
  | else-loop-length-test w ↦ absurd (omega (arith, w.loop-length-test.false))
  | then-loop-length-test+else-has+else-length-gt0 w ↦
      let view : c.self.inside.bands ≡ c.args.self.now = c.self.view_is in
      no_route c.args.self.now c.args.called.now (text_of_digits w.new.result) c.loop-length.length w.new.ensures
      (rw (← view) c.self.invariant.complete) (rw (← view) (sym w.has.ensures ∙ w.if-has.false)) c.loop-length.invariant (omega arith)
]
