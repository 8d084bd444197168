use Rattle.std.proofs.Common.{◌≡◌, drop}
use Rattle.std.specs.Option.{option_or}
use Rattle.cap_values.specs.Armings.{first_fault, mode_for}
use Rattle.cap_values.specs.Arms.{arm_at}
use Rattle.cap_values.specs.declared.arming.Point.{Point}
use Rattle.cap_values.proofs.arms.Arms.new.Given as goal

-- the armings that are left decide on the fault, and on each point that they name
abbrev pub invariant-loop-arming : goal.invariant-loop-arming
invariant-loop-arming l = record {
  fault : first_fault l.armings ≡ first_fault (drop l.arming-index l.armings);
  modes : (p : Point) → mode_for p l.armings ≡ option_or (mode_for p (drop l.arming-index l.armings)) (arm_at l.arms p);
}
