use Rattle.std.proofs.Common.{◌<◌, length, sym, ◌∙◌, refl, arith}
use Rattle.std.proofs.lemmas.Result.{err_from_is_err_and}
use Rattle.std.proofs.lemmas.Bool.Decides.{nat_tests}
use Rattle.cap_values.proofs.ArmingLemmas.{all_kept, all_modes, all_taken, given_fault, none_taken, refused_fault, taken_fault, taken_modes}
use Rattle.cap_values.proofs.arms.Arms.new.Goals as goal

pub loop-arming-init : goal.loop-arming-init
loop-arming-init c = record { fault = refl; modes = none_taken c.args.armings.now _ all_kept }

pub loop-arming-preserved : goal.loop-arming-preserved
loop-arming-preserved c =
    let named = sym c.point_of.ensures ∙ c.in_ok-point.was in record {
      fault = taken_fault c.args.armings.now c.loop-arming.arming-index _ _ c.loop-arming-test.true named c.loop-arming.invariant.fault;
      modes = taken_modes c.args.armings.now c.loop-arming.arming-index _ _ c.loop-arming.arms c.arm.new.self c.loop-arming-test.true named c.arm.ensures c.loop-arming.invariant.modes;
    }

pub returns-in_err-point-clause-fault : goal.returns-in_err-point-clause-fault
returns-in_err-point-clause-fault c =
    let named = sym c.point_of.ensures ∙ c.in_err-point.was in
    let p = err_from_is_err_and c.from_residual.result c.from_residual.ensures.1 in
    rw (p.1, p.2, given_fault c.args.armings.now (omega arith))
    (refused_fault c.args.armings.now c.loop-arming.arming-index _ _ c.loop-arming-test.true named c.loop-arming.invariant.fault)

pub returns-clause-fault : goal.returns-clause-fault
returns-clause-fault c =
    let given : 0 < length c.args.armings.now = grind (arith, nat_tests, sym c.is_empty.ensures ∙ c.if-is_empty.false) in
    rw (given_fault c.args.armings.now given)
    (all_taken c.args.armings.now c.loop-arming.arming-index (omega arith) (omega arith) c.loop-arming.invariant.fault)

pub returns-clause-value : goal.returns-clause-value
returns-clause-value c = all_modes c.args.armings.now c.loop-arming.arming-index c.loop-arming.arms (omega arith) (omega arith) c.loop-arming.invariant.modes
