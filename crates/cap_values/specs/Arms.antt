-- The modes that an `Arms` has for the points.
use Rattle.std.specs.Prelude.{Option, List}
use Rattle.cap_values.specs.Armings.{mode_for}
use Rattle.cap_values.specs.declared.arming.Arming.{Arming}
use Rattle.cap_values.specs.declared.arming.Point.{Point}
use Rattle.cap_values.specs.declared.arming.Point.TheVariants.{RouteSelectFailure, CalledPartyBusy, NoAnswer, Answer, Disconnect, Abandon}
use Rattle.cap_values.specs.declared.arms.Arms.{Arms}
use Rattle.cap_values.specs.declared.leg.Leg.TheVariants.{One, Two}
use Rattle.cap_values.specs.declared.mode.Mode.{Mode}

-- the mode for a point; none keeps the one that the point has
abbrev pub arm_at : Arms → Point → Option Mode
arm_at arms RouteSelectFailure = arms.route_select_failure
arm_at arms CalledPartyBusy = arms.called_party_busy
arm_at arms NoAnswer = arms.no_answer
arm_at arms Answer = arms.answer
arm_at arms (Disconnect One) = arms.disconnect_one
arm_at arms (Disconnect Two) = arms.disconnect_two
arm_at arms Abandon = arms.abandon

-- what armings come to, point by point
abbrev pub arms_of : List Arming → Arms
arms_of armings = record {
  route_select_failure = mode_for RouteSelectFailure armings;
  called_party_busy = mode_for CalledPartyBusy armings;
  no_answer = mode_for NoAnswer armings;
  answer = mode_for Answer armings;
  disconnect_one = mode_for (Disconnect One) armings;
  disconnect_two = mode_for (Disconnect Two) armings;
  abandon = mode_for Abandon armings;
}
