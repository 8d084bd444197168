-- The rules of the service: the turn and the next state for each input.
use Rattle.std.specs.Prelude.{◌-◌, ◌&&◌, ℕ, Bool, true, false, Option, Some, None, Result, Ok, Err, [], ◌∷◌, if◌then◌else◌, nat_le}
use Rattle.std.specs.Int.{div_ceil}
use Rattle.account_core.specs.Asked.{Asked, Reserves, Settles, Returns}
use Rattle.account_core.specs.declared.entry.Reply.{Reply}
use Rattle.account_core.specs.declared.entry.Reply.TheVariants.{Granted, Denied, Settled, Forfeit, Returned}
use Rattle.cap_values.specs.Orders.{Watch, Pay, GoOn, Release}
use Rattle.cap_values.specs.declared.event.Event.{Event}
use Rattle.cap_values.specs.declared.event.Event.TheVariants as event
use Rattle.cap_values.specs.declared.message.SsfMsg.{SsfMsg}
use Rattle.cap_values.specs.declared.message.SsfMsg.TheVariants as msg
use Rattle.cap_values.specs.declared.mode.Mode.{Mode}
use Rattle.cap_values.specs.declared.mode.Mode.TheVariants.{Interrupted, NotifyAndContinue, Transparent}
use Rattle.dialogue_core.specs.Phases.{Conditions, Phase, Says, Sequel, FirstAsk, Running, Settling, MoreAsk, Returning, Ending, Closed, Asks, Sends, Finished}
use Rattle.dialogue_core.specs.Phases as phase
use Rattle.dialogue_core.specs.ServiceArms.{service_arms}
use Rattle.dialogue_core.specs.declared.fault.DialogueFault.{DialogueFault}
use Rattle.dialogue_core.specs.declared.fault.DialogueFault.TheVariants.{Unexpected, NoAskPending, AskPending}
use Rattle.price_core.specs.RatesOf.{rates_of}
use Rattle.price_core.specs.declared.route.Route.{Route}
use Rattle.price_core.specs.declared.times.TheConstants.{DAY}

-- what is said, and where the dialogue is then; or why the input is refused
abbrev pub Step : Type 0
Step = Result (Says × Phase) DialogueFault

-- more time is asked for at a moment
abbrev pub reserve : Conditions → ℕ → Asked
reserve t at = Reserves t.call t.plan t.wanted t.least at

-- what the call holds is returned, and then comes the sequel
abbrev pub give_back : Conditions → Sequel → Step
give_back t sequel = Ok (Asks (Returns t.call), Returning sequel)

-- a call that waits at an event goes on
abbrev pub going_on : Mode → Sequel
going_on Interrupted = phase.Continues
going_on NotifyAndContinue = phase.Nothing
going_on Transparent = phase.Nothing

-- what follows a return
abbrev pub sequel : Sequel → Says × Phase
sequel phase.Nothing = (Sends [], Ending)
sequel phase.Continues = (Sends (GoOn ∷ []), Ending)
sequel phase.Clears = (Sends (Release 16 ∷ []), Ending)
sequel phase.Fails = (Sends (Release 41 ∷ []), Ending)
sequel phase.Closes = (Finished, Closed)

-- ---- begin

-- the whole seconds to the switch, rounded up
abbrev pub seconds_to : ℕ → Option ℕ → Option ℕ
seconds_to now None = None
seconds_to now (Some at) = Some (div_ceil (at - now) 10)

-- the terms of a call that begins at a moment on a route
abbrev pub conditions : ℕ → ℕ → ℕ → ℕ → Route → Conditions
conditions call now wanted least route =
    record { call = call; plan = rates_of route.plan; wanted = wanted; least = least; switch = seconds_to now route.switch_at }

-- a dialogue begins: it asks for time, or releases a call without a route
abbrev pub on_begin : ℕ → ℕ → ℕ → ℕ → Option Route → Says × Phase
on_begin call now wanted least None = (Sends (Release 1 ∷ []), Ending)
on_begin call now wanted least (Some route) =
    (Asks (reserve (conditions call now wanted least route) now), FirstAsk (conditions call now wanted least route))

-- ---- a message of the gsmSSF

-- an event of a call that was granted time
abbrev pub event_reported : Conditions → Event → Mode → Step
event_reported t event.Answer mode = Ok (Sends [], Running t)
event_reported t _ mode = give_back t (going_on mode)

-- a message while the call goes on
abbrev pub while_running : Conditions → ℕ → ℕ → SsfMsg → Step
while_running t number at (msg.InitialDp call calling called) = Err Unexpected
while_running t number at (msg.EventReport event leg mode) = event_reported t event mode
while_running t number at (msg.ChargingReport active info) = Ok (Asks (Settles t.call number info), Settling t active at)
while_running t number at msg.Ended = give_back t phase.Closes

-- a message after the last ask
abbrev pub ending : SsfMsg → Step
ending (msg.InitialDp call calling called) = Err Unexpected
ending (msg.EventReport event leg mode) = Ok (sequel (going_on mode))
ending (msg.ChargingReport active info) = Err Unexpected
ending msg.Ended = Ok (Finished, Closed)

-- a message with the number of its mail, at its moment
abbrev pub on_message : Phase → ℕ → ℕ → SsfMsg → Step
on_message (FirstAsk t) number at message = Err AskPending
on_message (Running t) number at message = while_running t number at message
on_message (Settling t active since) number at message = Err AskPending
on_message (MoreAsk t) number at message = Err AskPending
on_message (Returning after) number at message = Err AskPending
on_message Ending number at message = ending message
on_message Closed number at message = Err Unexpected

-- ---- a reply of the account

-- the units of a grant that may be given on
abbrev pub are_units : ℕ → Bool
are_units units = nat_le 1 units && nat_le units DAY

-- the first period: the call is watched, charged, and goes on
abbrev pub says_first_period : Conditions → ℕ → Bool → Says
says_first_period t units last = Sends (Watch service_arms ∷ Pay units t.switch last ∷ GoOn ∷ [])

-- the reply to the first Reserve
abbrev pub first_reply : Conditions → Reply → Step
first_reply t (Granted units last available) =
    if are_units units then Ok (says_first_period t units last, Running t) else Err Unexpected
first_reply t (Denied available) = Ok (Sends (Release 21 ∷ []), Ending)
first_reply t _ = Err Unexpected

-- after a report of a call that goes on, taken at a moment
abbrev pub active_reply : Conditions → ℕ → Reply → Step
active_reply t at (Settled paid available) = Ok (Asks (reserve t at), MoreAsk t)
active_reply t at (Forfeit paid available) = give_back t phase.Fails
active_reply t at _ = Err Unexpected

-- after the last report
abbrev pub last_reply : Conditions → Reply → Step
last_reply t (Settled paid available) = give_back t phase.Nothing
last_reply t (Forfeit paid available) = give_back t phase.Nothing
last_reply t _ = Err Unexpected

-- the reply to a further Reserve
abbrev pub more_reply : Conditions → Reply → Step
more_reply t (Granted units last available) =
    if are_units units then Ok (Sends (Pay units None last ∷ []), Running t) else Err Unexpected
more_reply t (Denied available) = give_back t phase.Clears
more_reply t _ = Err Unexpected

-- the reply to a Return
abbrev pub on_return_reply : Sequel → Reply → Step
on_return_reply after (Returned paid available) = Ok (sequel after)
on_return_reply after _ = Err Unexpected

-- a reply of the account
abbrev pub on_reply : Phase → Reply → Step
on_reply (FirstAsk t) reply = first_reply t reply
on_reply (Running t) reply = Err NoAskPending
on_reply (Settling t true at) reply = active_reply t at reply
on_reply (Settling t false at) reply = last_reply t reply
on_reply (MoreAsk t) reply = more_reply t reply
on_reply (Returning after) reply = on_return_reply after reply
on_reply Ending reply = Err NoAskPending
on_reply Closed reply = Err NoAskPending

-- ---- a refusal of the account

-- the account refused what was asked
abbrev pub on_refusal : Phase → Step
on_refusal (FirstAsk t) = Ok (Sends (Release 41 ∷ []), Ending)
on_refusal (Running t) = Err NoAskPending
on_refusal (Settling t true at) = give_back t phase.Fails
on_refusal (Settling t false at) = give_back t phase.Nothing
on_refusal (MoreAsk t) = give_back t phase.Fails
on_refusal (Returning after) = Ok (sequel after)
on_refusal Ending = Err NoAskPending
on_refusal Closed = Err NoAskPending
