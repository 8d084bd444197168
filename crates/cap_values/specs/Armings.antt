-- How armings are judged, and what they say of a point.
use Rattle.std.specs.Prelude.{◌==◌, Bool, true, false, Option, Some, None, Result, Ok, Err, List, [], ◌∷◌, if◌then◌else◌}
use Rattle.std.specs.Option.{option_or}
use Rattle.cap_values.specs.Codes.{leg_code}
use Rattle.cap_values.specs.declared.arming.Arming.{Arming}
use Rattle.cap_values.specs.declared.arming.Point.{Point}
use Rattle.cap_values.specs.declared.arming.Point.TheVariants as point
use Rattle.cap_values.specs.declared.event.Event.{Event}
use Rattle.cap_values.specs.declared.event.Event.TheVariants as event
use Rattle.cap_values.specs.declared.fault.ValueFault.{ValueFault}
use Rattle.cap_values.specs.declared.fault.ValueFault.TheVariants.{ParameterOutOfRange, MissingParameter}
use Rattle.cap_values.specs.declared.leg.Leg.{Leg}
use Rattle.cap_values.specs.declared.mode.Mode.{Mode}
use Rattle.cap_values.specs.declared.mode.Mode.TheVariants.{Interrupted, NotifyAndContinue, Transparent}

-- a point that may be reported, and at which the call isn't interrupted
abbrev pub uninterrupted : Point → Mode → Result Point ValueFault
uninterrupted p Interrupted = Err ParameterOutOfRange
uninterrupted p NotifyAndContinue = Ok p
uninterrupted p Transparent = Ok p

-- the point of a Disconnect, which has to name its leg
abbrev pub disconnected : Option Leg → Result Point ValueFault
disconnected None = Err MissingParameter
disconnected (Some leg) = Ok (point.Disconnect leg)

-- the point of an event, a leg and a mode, judged in this order: an event that may be armed, a leg where Disconnect needs it, a mode that the event may have
abbrev pub point_at : Event → Option Leg → Mode → Result Point ValueFault
point_at event.CollectedInfo leg mode = Err ParameterOutOfRange
point_at event.RouteSelectFailure leg mode = Ok point.RouteSelectFailure
point_at event.CalledPartyBusy leg mode = Ok point.CalledPartyBusy
point_at event.NoAnswer leg mode = Ok point.NoAnswer
point_at event.Answer leg mode = uninterrupted point.Answer mode
point_at event.Disconnect leg mode = disconnected leg
point_at event.Abandon leg mode = uninterrupted point.Abandon mode

-- the point that an arming names, or what is wrong with it
abbrev pub point_of : Arming → Result Point ValueFault
point_of arming = point_at arming.event arming.leg arming.mode

-- the same point
abbrev pub is_same : Point → Point → Bool
is_same point.RouteSelectFailure point.RouteSelectFailure = true
is_same point.CalledPartyBusy point.CalledPartyBusy = true
is_same point.NoAnswer point.NoAnswer = true
is_same point.Answer point.Answer = true
is_same (point.Disconnect leg) (point.Disconnect other) = leg_code leg == leg_code other
is_same point.Abandon point.Abandon = true
is_same _ _ = false

-- the mode that an arming asks for at a point, if any
abbrev pub mode_asked_at : Point → Result Point ValueFault → Mode → Option Mode
mode_asked_at p (Ok named) mode = if is_same p named then Some mode else None
mode_asked_at p (Err fault) mode = None

-- the mode of a point after all armings: that of the last one which names it, or none
abbrev pub mode_for : Point → List Arming → Option Mode
mode_for p [] = None
mode_for p (arming ∷ armings) = option_or (mode_for p armings) (mode_asked_at p (point_of arming) arming.mode)

-- the fault of an arming, or else of those after it
abbrev pub fault_or : Result Point ValueFault → Option ValueFault → Option ValueFault
fault_or (Ok named) later = later
fault_or (Err fault) later = Some fault

-- the first fault among armings
abbrev pub first_fault : List Arming → Option ValueFault
first_fault [] = None
first_fault (arming ∷ armings) = fault_or (point_of arming) (first_fault armings)

-- why armings are refused: none was given, or else the first fault among them
abbrev pub arming_fault : List Arming → Option ValueFault
arming_fault [] = Some MissingParameter
arming_fault (arming ∷ armings) = first_fault (arming ∷ armings)
