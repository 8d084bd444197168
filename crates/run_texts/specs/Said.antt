-- What a row of a trace says.
use Rattle.std.specs.Prelude.{ℕ, Bool, true, false, Option, Some, None, List, [], ◌∷◌, ◌++◌, codes, map}
use Rattle.std.specs.Fmt.{decimal}
use Rattle.account_core.specs.Faults.{account_fault_name}
use Rattle.account_core.specs.declared.fault.AccountFault.{AccountFault}
use Rattle.cap_values.specs.Codes.{leg_code}
use Rattle.cap_values.specs.NumberDigits.{digits_of_number}
use Rattle.cap_values.specs.declared.event.Event.{Event}
use Rattle.cap_values.specs.declared.event.Event.TheVariants as event
use Rattle.cap_values.specs.declared.leg.Leg.{Leg}
use Rattle.cap_values.specs.declared.message.SsfMsg.{SsfMsg}
use Rattle.cap_values.specs.declared.message.SsfMsg.TheVariants as message
use Rattle.cap_values.specs.declared.mode.Mode.{Mode}
use Rattle.cap_values.specs.declared.mode.Mode.TheVariants as mode
use Rattle.cap_values.specs.declared.operation.ScfOp.{ScfOp}
use Rattle.cap_values.specs.declared.operation.ScfOp.TheVariants as operation
use Rattle.tariff_core.specs.Printing.{moment_or_empty}
use Rattle.tariff_core.specs.declared.clock.Clock.{Clock}
use Rattle.run_values.specs.declared.post.Answer.{Answer}
use Rattle.run_values.specs.declared.post.Body.{Body}
use Rattle.run_values.specs.declared.post.Body.TheVariants as body
use Rattle.price_core.specs.declared.times.TimeInfo.{TimeInfo}
use Rattle.price_core.specs.declared.times.TimeInfo.TheVariants as info
use Rattle.table_core.specs.Fields.{number_or_empty}
use Rattle.cap_values.specs.Orders.{operations_in}

-- what is said, and with what
pub record Said : Type 0 where
  pub what : List ℕ
  pub x1 : List ℕ
  pub x2 : List ℕ
  pub x3 : List ℕ
  pub x4 : List ℕ

-- a field that isn't named is empty
abbrev pub alone : List ℕ → Said
alone what = record { what = what; x1 = []; x2 = []; x3 = []; x4 = [] }

-- the word for an event
abbrev pub event_word : Event → List ℕ
event_word event.CollectedInfo = codes "collectedInfo"
event_word event.RouteSelectFailure = codes "routeSelectFailure"
event_word event.CalledPartyBusy = codes "busy"
event_word event.NoAnswer = codes "noAnswer"
event_word event.Answer = codes "answer"
event_word event.Disconnect = codes "disconnect"
event_word event.Abandon = codes "abandon"

-- the word for how an event was watched
abbrev pub mode_word : Mode → List ℕ
mode_word mode.Interrupted = codes "interrupted"
mode_word mode.NotifyAndContinue = codes "notify"
mode_word mode.Transparent = codes "transparent"

-- the number of a leg, where there is one
abbrev pub leg_number : Option Leg → Option ℕ
leg_number None = None
leg_number (Some leg) = Some (leg_code leg)

-- whether a call goes on
abbrev pub state_word : Bool → List ℕ
state_word true = codes "active"
state_word false = codes "inactive"

-- whether a call is released at the end of its period
abbrev pub release_word : Bool → List ℕ
release_word true = codes "release"
release_word false = []

-- a charging report: the time since the answer, or that since the tariff switch with that before it
abbrev pub report_said : Bool → TimeInfo → Said
report_said active (info.NoSwitch t) = record { what = codes "ApplyChargingReport"; x1 = state_word active; x2 = codes "n"; x3 = decimal t; x4 = [] }
report_said active (info.Switch since interval) =
    record { what = codes "ApplyChargingReport"; x1 = state_word active; x2 = codes "s"; x3 = decimal since; x4 = number_or_empty interval }

-- what the gsmSSF of a call says
abbrev pub message_said : SsfMsg → Said
message_said (message.InitialDp call calling called) = record (alone (codes "InitialDP")) { x1 = digits_of_number calling; x2 = digits_of_number called }
message_said (message.EventReport event leg mode) =
    record (alone (codes "EventReportBCSM")) { x1 = event_word event; x2 = number_or_empty (leg_number leg); x3 = mode_word mode }
message_said (message.ChargingReport active info) = report_said active info
message_said message.Ended = alone (codes "Ended")

-- what a post says: a message, or a recharge with its last moment as a clock prints it
abbrev pub post_said : Clock → Body → Said
post_said clock (body.Ssf call msg) = message_said msg
post_said clock (body.Recharge account amount until) =
    record (alone (codes "Recharge")) { x1 = decimal account; x2 = decimal amount; x3 = moment_or_empty clock until }

-- what an operation says
abbrev pub operation_said : ScfOp → Said
operation_said (operation.RequestReport arms) = alone (codes "RequestReportBCSMEvent")
operation_said (operation.ApplyCharging charge) =
    record (alone (codes "ApplyCharging")) { x1 = decimal charge.period; x2 = number_or_empty charge.switch; x3 = release_word charge.release }
operation_said operation.Continue = alone (codes "Continue")
operation_said (operation.ReleaseCall cause) = record (alone (codes "ReleaseCall")) { x1 = decimal cause.value }

-- whether a post had no place
abbrev pub stray_said : Bool → List Said
stray_said true = alone (codes "stray") ∷ []
stray_said false = []

-- the fault that an ask of an account got
abbrev pub refused_said : Option AccountFault → List Said
refused_said None = []
refused_said (Some fault) = record (alone (codes "refused")) { x1 = account_fault_name fault } ∷ []

-- what the service says to a post: the operations of its answer, in order, then whether it was stray, and the fault
abbrev pub answer_said : Answer → List Said
answer_said answer = map operation_said (operations_in answer.instructions) ++ (stray_said answer.stray ++ refused_said answer.refused)
