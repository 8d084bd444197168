-- The numbers of events, modes and legs in the protocol (GSM 09.78).
use Rattle.std.specs.Prelude.{ℕ}
use Rattle.cap_values.specs.declared.event.Event.{Event}
use Rattle.cap_values.specs.declared.event.Event.TheVariants.{CollectedInfo, RouteSelectFailure, CalledPartyBusy, NoAnswer, Answer, Disconnect, Abandon}
use Rattle.cap_values.specs.declared.leg.Leg.{Leg}
use Rattle.cap_values.specs.declared.leg.Leg.TheVariants.{One, Two}
use Rattle.cap_values.specs.declared.mode.Mode.{Mode}
use Rattle.cap_values.specs.declared.mode.Mode.TheVariants.{Interrupted, NotifyAndContinue, Transparent}

-- the number of an event in the protocol (EventTypeBCSM)
abbrev pub event_code : Event → ℕ
event_code CollectedInfo = 2
event_code RouteSelectFailure = 4
event_code CalledPartyBusy = 5
event_code NoAnswer = 6
event_code Answer = 7
event_code Disconnect = 9
event_code Abandon = 10

-- the number of a mode in the protocol (MonitorMode)
abbrev pub mode_code : Mode → ℕ
mode_code Interrupted = 0
mode_code NotifyAndContinue = 1
mode_code Transparent = 2

-- the number of a leg in the protocol (LegID)
abbrev pub leg_code : Leg → ℕ
leg_code One = 1
leg_code Two = 2
