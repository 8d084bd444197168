-- The points that the service watches.
use Rattle.std.specs.Prelude.{Some, None, List, [], ◌∷◌}
use Rattle.cap_values.specs.Arms.{arms_of}
use Rattle.cap_values.specs.declared.arming.Arming.{Arming}
use Rattle.cap_values.specs.declared.arms.Arms.{Arms}
use Rattle.cap_values.specs.declared.event.Event.{Event}
use Rattle.cap_values.specs.declared.event.Event.TheVariants.{RouteSelectFailure, CalledPartyBusy, NoAnswer, Answer, Disconnect, Abandon}
use Rattle.cap_values.specs.declared.leg.Leg.{Leg}
use Rattle.cap_values.specs.declared.leg.Leg.TheVariants.{One, Two}
use Rattle.cap_values.specs.declared.mode.Mode.TheVariants.{Interrupted, NotifyAndContinue}

-- an event that is reported to the service while the call goes on
abbrev pub notify_arming : Event → Arming
notify_arming event = record { event = event; leg = None; mode = NotifyAndContinue }

-- a disconnect of a leg, at which the call waits for the service
abbrev pub interrupted : Leg → Arming
interrupted leg = record { event = Disconnect; leg = Some leg; mode = Interrupted }

-- each event before the call is over is reported, and the call waits where a party of it hangs up
abbrev pub service_armings : List Arming
service_armings =
    notify_arming RouteSelectFailure ∷ notify_arming CalledPartyBusy ∷ notify_arming NoAnswer ∷ notify_arming Answer ∷ notify_arming Abandon
    ∷ interrupted One ∷ interrupted Two ∷ []

-- these armings, by point
unfoldable pub service_arms : Arms
service_arms = arms_of service_armings
