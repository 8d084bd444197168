-- The modes that the code keeps for the points.
use Rattle.std.specs.Prelude.{unwrap_or}
use Rattle.cap_values.specs.Arms.{arm_at}
use Rattle.cap_values.specs.declared.arming.Point.{Point}
use Rattle.cap_values.specs.declared.arming.Point.TheVariants.{RouteSelectFailure, CalledPartyBusy, NoAnswer, Answer, Disconnect, Abandon}
use Rattle.cap_values.specs.declared.arms.Arms.{Arms}
use Rattle.cap_values.specs.declared.leg.Leg.TheVariants.{One, Two}
use Rattle.cap_values.specs.declared.mode.Mode.{Mode}
use Rattle.ssf_core.specs.declared.stage.Modes.{Modes}

-- the mode of a point
abbrev pub modes_at : Modes → Point → Mode
modes_at modes RouteSelectFailure = modes.route_select_failure
modes_at modes CalledPartyBusy = modes.called_party_busy
modes_at modes NoAnswer = modes.no_answer
modes_at modes Answer = modes.answer
modes_at modes (Disconnect One) = modes.disconnect_one
modes_at modes (Disconnect Two) = modes.disconnect_two
modes_at modes Abandon = modes.abandon

-- the modes after a report request
abbrev pub armed_modes : Modes → Arms → Modes
armed_modes modes arms = record {
  route_select_failure = unwrap_or (arm_at arms RouteSelectFailure) modes.route_select_failure;
  called_party_busy = unwrap_or (arm_at arms CalledPartyBusy) modes.called_party_busy;
  no_answer = unwrap_or (arm_at arms NoAnswer) modes.no_answer;
  answer = unwrap_or (arm_at arms Answer) modes.answer;
  disconnect_one = unwrap_or (arm_at arms (Disconnect One)) modes.disconnect_one;
  disconnect_two = unwrap_or (arm_at arms (Disconnect Two)) modes.disconnect_two;
  abandon = unwrap_or (arm_at arms Abandon) modes.abandon;
}
