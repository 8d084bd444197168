-- A reply of the kind that an account gives has its place in the rules.
use Rattle.std.proofs.Common.{◌≡◌, ℕ, ◌≤◌, Bool, true, false, List, [], ◌∷◌, Option, Some, None, Ok, Err, refl, arith}
use Rattle.std.specs.Prelude.{if◌then◌else◌, IsOk, ⊤}
use Rattle.std.proofs.lemmas.Bool.Decides.{nat_tests}
use Rattle.account_core.specs.Asked.{Asked, Credits, Reserves, Settles, Returns}
use Rattle.account_core.specs.declared.entry.Reply.{Reply}
use Rattle.account_core.specs.declared.entry.Reply.TheVariants.{Credited, CreditOver, Granted, Denied, Settled, Forfeit, Returned}
use Rattle.cap_values.specs.Orders.{Pay}
use Rattle.cap_values.specs.declared.event.Event.{Event}
use Rattle.cap_values.specs.declared.event.Event.TheVariants as event
use Rattle.cap_values.specs.declared.message.SsfMsg.{SsfMsg}
use Rattle.cap_values.specs.declared.message.SsfMsg.TheVariants as msg
use Rattle.cap_values.specs.declared.mode.Mode.{Mode}
use Rattle.dialogue_core.specs.Phases.{Conditions, Phase, Says, Sequel, FirstAsk, Running, Settling, MoreAsk, Returning, Ending, Closed, Asks, Sends, Finished}
use Rattle.dialogue_core.specs.Phases as phase
use Rattle.held_calls.specs.Dialogues.{Exchange, Input, IsHonest, IsDialogueRun, Message, Answer, Refusal, last_said, step}
use Rattle.dialogue_core.specs.Rules.{Step, are_units, on_begin, ending, says_first_period, going_on, on_reply, event_reported, while_running, sequel}
use Rattle.dialogue_core.specs.declared.fault.DialogueFault.TheVariants.{Unexpected}
use Rattle.price_core.specs.declared.route.Route.{Route}

-- what was asked last is what the phase waits for
abbrev Awaits : Says → Phase → Type 0
Awaits (Asks (Reserves call plan wanted least moment)) (FirstAsk t) = ⊤
Awaits (Asks (Reserves call plan wanted least moment)) (MoreAsk t) = ⊤
Awaits (Asks (Settles call number info)) (Settling t active since) = ⊤
Awaits (Asks (Returns call)) (Returning after) = ⊤
Awaits (Asks asked) phase = ⊥
Awaits (Sends orders) phase = ⊤
Awaits Finished phase = ⊤

abbrev AwaitsIn : Step → Type 0
AwaitsIn (Ok next) = Awaits next.0 next.1
AwaitsIn (Err fault) = ⊤

awaits_after : (after : Sequel) → AwaitsIn (Ok (sequel after))
awaits_after phase.Nothing = tt
awaits_after phase.Continues = tt
awaits_after phase.Clears = tt
awaits_after phase.Fails = tt
awaits_after phase.Closes = tt

awaits_event : (t : Conditions) (e : Event) (m : Mode) → AwaitsIn (event_reported t e m)
awaits_event t event.Answer m = tt
awaits_event t event.CollectedInfo m = tt
awaits_event t event.RouteSelectFailure m = tt
awaits_event t event.CalledPartyBusy m = tt
awaits_event t event.NoAnswer m = tt
awaits_event t event.Disconnect m = tt
awaits_event t event.Abandon m = tt

awaits_running : (t : Conditions) (number at : ℕ) (message : SsfMsg) → AwaitsIn (while_running t number at message)
awaits_running t number at (msg.InitialDp call calling called) = tt
awaits_running t number at (msg.EventReport e leg m) = awaits_event t e m
awaits_running t number at (msg.ChargingReport active info) = tt
awaits_running t number at msg.Ended = tt

awaits_ending : (message : SsfMsg) → AwaitsIn (ending message)
awaits_ending (msg.InitialDp call calling called) = tt
awaits_ending (msg.EventReport e leg m) = awaits_after (going_on m)
awaits_ending (msg.ChargingReport active info) = tt
awaits_ending msg.Ended = tt

awaits_first : (t : Conditions) (units : ℕ) (last b : Bool) → AwaitsIn (if b then Ok (says_first_period t units last, Running t) else Err Unexpected)
awaits_first t units last true = tt
awaits_first t units last false = tt

awaits_more : (t : Conditions) (units : ℕ) (last b : Bool) → AwaitsIn (if b then Ok (Sends (Pay units None last ∷ []), Running t) else Err Unexpected)
awaits_more t units last true = tt
awaits_more t units last false = tt

awaits_reply : (phase : Phase) (reply : Reply) → AwaitsIn (on_reply phase reply)
awaits_reply (FirstAsk t) (Credited a) = tt
awaits_reply (FirstAsk t) (CreditOver a) = tt
awaits_reply (FirstAsk t) (Granted units last a) = awaits_first t units last (are_units units)
awaits_reply (FirstAsk t) (Denied a) = tt
awaits_reply (FirstAsk t) (Settled p a) = tt
awaits_reply (FirstAsk t) (Forfeit p a) = tt
awaits_reply (FirstAsk t) (Returned p a) = tt
awaits_reply (Running t) reply = tt
awaits_reply (Settling t true since) (Credited a) = tt
awaits_reply (Settling t true since) (CreditOver a) = tt
awaits_reply (Settling t true since) (Granted units last a) = tt
awaits_reply (Settling t true since) (Denied a) = tt
awaits_reply (Settling t true since) (Settled p a) = tt
awaits_reply (Settling t true since) (Forfeit p a) = tt
awaits_reply (Settling t true since) (Returned p a) = tt
awaits_reply (Settling t false since) (Credited a) = tt
awaits_reply (Settling t false since) (CreditOver a) = tt
awaits_reply (Settling t false since) (Granted units last a) = tt
awaits_reply (Settling t false since) (Denied a) = tt
awaits_reply (Settling t false since) (Settled p a) = tt
awaits_reply (Settling t false since) (Forfeit p a) = tt
awaits_reply (Settling t false since) (Returned p a) = tt
awaits_reply (MoreAsk t) (Credited a) = tt
awaits_reply (MoreAsk t) (CreditOver a) = tt
awaits_reply (MoreAsk t) (Granted units last a) = awaits_more t units last (are_units units)
awaits_reply (MoreAsk t) (Denied a) = tt
awaits_reply (MoreAsk t) (Settled p a) = tt
awaits_reply (MoreAsk t) (Forfeit p a) = tt
awaits_reply (MoreAsk t) (Returned p a) = tt
awaits_reply (Returning after) (Credited a) = tt
awaits_reply (Returning after) (CreditOver a) = tt
awaits_reply (Returning after) (Granted units last a) = tt
awaits_reply (Returning after) (Denied a) = tt
awaits_reply (Returning after) (Settled p a) = tt
awaits_reply (Returning after) (Forfeit p a) = tt
awaits_reply (Returning after) (Returned p a) = awaits_after after
awaits_reply Ending reply = tt
awaits_reply Closed reply = tt

awaits : (phase : Phase) (input : Input) → AwaitsIn (step phase input)
awaits (FirstAsk t) (Message number at message) = tt
awaits (FirstAsk t) (Answer reply) = awaits_reply (FirstAsk t) reply
awaits (FirstAsk t) Refusal = tt
awaits (Running t) (Message number at message) = awaits_running t number at message
awaits (Running t) (Answer reply) = awaits_reply (Running t) reply
awaits (Running t) Refusal = tt
awaits (Settling t active since) (Message number at message) = tt
awaits (Settling t active since) (Answer reply) = awaits_reply (Settling t active since) reply
awaits (Settling t true since) Refusal = tt
awaits (Settling t false since) Refusal = tt
awaits (MoreAsk t) (Message number at message) = tt
awaits (MoreAsk t) (Answer reply) = awaits_reply (MoreAsk t) reply
awaits (MoreAsk t) Refusal = tt
awaits (Returning after) (Message number at message) = tt
awaits (Returning after) (Answer reply) = awaits_reply (Returning after) reply
awaits (Returning after) Refusal = awaits_after after
awaits Ending (Message number at message) = awaits_ending message
awaits Ending (Answer reply) = awaits_reply Ending reply
awaits Ending Refusal = tt
awaits Closed (Message number at message) = tt
awaits Closed (Answer reply) = awaits_reply Closed reply
awaits Closed Refusal = tt

begun_awaits : (call now wanted least : ℕ) (route : Option Route)
    → Awaits (on_begin call now wanted least route).0 (on_begin call now wanted least route).1
begun_awaits call now wanted least None = tt
begun_awaits call now wanted least (Some route) = tt

run_awaits : (call now wanted least : ℕ) (route : Option Route) (run : List Exchange) (phase : Phase) → IsDialogueRun (on_begin call now wanted least route) run phase
    → Awaits (last_said (on_begin call now wanted least route) run) phase
run_awaits call now wanted least route [] phase is = rw (← is) (begun_awaits call now wanted least route)
run_awaits call now wanted least route (exchange ∷ earlier) phase (before, runs, is) = rw is at (awaits before exchange.input)

abbrev given : Bool → Says → Phase → Step
given b said phase = if b then Ok (said, phase) else Err Unexpected

granted : (b : Bool) (said : Says) (phase : Phase) → b ≡ true → IsOk (given b said phase)
granted true said phase is = refl
granted false said phase is = cc

units_are : (units : ℕ) → 1 ≤ units → units ≤ 864000 → are_units units ≡ true
units_are units positive within = grind (arith, nat_tests)

expected : (asked : Asked) (phase : Phase) (reply : Reply) → Awaits (Asks asked) phase → IsHonest asked reply → IsOk (on_reply phase reply)
expected (Credits amount until) phase reply waits honest = absurd waits
expected (Reserves call plan wanted least moment) (FirstAsk t) (Credited a) waits honest = absurd honest
expected (Reserves call plan wanted least moment) (FirstAsk t) (CreditOver a) waits honest = absurd honest
expected (Reserves call plan wanted least moment) (FirstAsk t) (Granted units last a) waits honest = granted (are_units units) (says_first_period t units last) (Running t) (units_are units honest.0 honest.1)
expected (Reserves call plan wanted least moment) (FirstAsk t) (Denied a) waits honest = refl
expected (Reserves call plan wanted least moment) (FirstAsk t) (Settled p a) waits honest = absurd honest
expected (Reserves call plan wanted least moment) (FirstAsk t) (Forfeit p a) waits honest = absurd honest
expected (Reserves call plan wanted least moment) (FirstAsk t) (Returned p a) waits honest = absurd honest
expected (Reserves call plan wanted least moment) (Running t) reply waits honest = absurd waits
expected (Reserves call plan wanted least moment) (Settling t active since) reply waits honest = absurd waits
expected (Reserves call plan wanted least moment) (MoreAsk t) (Credited a) waits honest = absurd honest
expected (Reserves call plan wanted least moment) (MoreAsk t) (CreditOver a) waits honest = absurd honest
expected (Reserves call plan wanted least moment) (MoreAsk t) (Granted units last a) waits honest = granted (are_units units) (Sends (Pay units None last ∷ [])) (Running t) (units_are units honest.0 honest.1)
expected (Reserves call plan wanted least moment) (MoreAsk t) (Denied a) waits honest = refl
expected (Reserves call plan wanted least moment) (MoreAsk t) (Settled p a) waits honest = absurd honest
expected (Reserves call plan wanted least moment) (MoreAsk t) (Forfeit p a) waits honest = absurd honest
expected (Reserves call plan wanted least moment) (MoreAsk t) (Returned p a) waits honest = absurd honest
expected (Reserves call plan wanted least moment) (Returning after) reply waits honest = absurd waits
expected (Reserves call plan wanted least moment) Ending reply waits honest = absurd waits
expected (Reserves call plan wanted least moment) Closed reply waits honest = absurd waits
expected (Settles call number info) (FirstAsk t) reply waits honest = absurd waits
expected (Settles call number info) (Running t) reply waits honest = absurd waits
expected (Settles call number info) (Settling t true since) (Credited a) waits honest = absurd honest
expected (Settles call number info) (Settling t true since) (CreditOver a) waits honest = absurd honest
expected (Settles call number info) (Settling t true since) (Granted units last a) waits honest = absurd honest
expected (Settles call number info) (Settling t true since) (Denied a) waits honest = absurd honest
expected (Settles call number info) (Settling t true since) (Settled p a) waits honest = refl
expected (Settles call number info) (Settling t true since) (Forfeit p a) waits honest = refl
expected (Settles call number info) (Settling t true since) (Returned p a) waits honest = absurd honest
expected (Settles call number info) (Settling t false since) (Credited a) waits honest = absurd honest
expected (Settles call number info) (Settling t false since) (CreditOver a) waits honest = absurd honest
expected (Settles call number info) (Settling t false since) (Granted units last a) waits honest = absurd honest
expected (Settles call number info) (Settling t false since) (Denied a) waits honest = absurd honest
expected (Settles call number info) (Settling t false since) (Settled p a) waits honest = refl
expected (Settles call number info) (Settling t false since) (Forfeit p a) waits honest = refl
expected (Settles call number info) (Settling t false since) (Returned p a) waits honest = absurd honest
expected (Settles call number info) (MoreAsk t) reply waits honest = absurd waits
expected (Settles call number info) (Returning after) reply waits honest = absurd waits
expected (Settles call number info) Ending reply waits honest = absurd waits
expected (Settles call number info) Closed reply waits honest = absurd waits
expected (Returns call) (FirstAsk t) reply waits honest = absurd waits
expected (Returns call) (Running t) reply waits honest = absurd waits
expected (Returns call) (Settling t active since) reply waits honest = absurd waits
expected (Returns call) (MoreAsk t) reply waits honest = absurd waits
expected (Returns call) (Returning after) (Credited a) waits honest = absurd honest
expected (Returns call) (Returning after) (CreditOver a) waits honest = absurd honest
expected (Returns call) (Returning after) (Granted units last a) waits honest = absurd honest
expected (Returns call) (Returning after) (Denied a) waits honest = absurd honest
expected (Returns call) (Returning after) (Settled p a) waits honest = absurd honest
expected (Returns call) (Returning after) (Forfeit p a) waits honest = absurd honest
expected (Returns call) (Returning after) (Returned p a) waits honest = refl
expected (Returns call) Ending reply waits honest = absurd waits
expected (Returns call) Closed reply waits honest = absurd waits

pub honest_expected : (call now wanted least : ℕ) (route : Option Route) (run : List Exchange) (phase : Phase) (asked : Asked) (reply : Reply)
    → IsDialogueRun (on_begin call now wanted least route) run phase → last_said (on_begin call now wanted least route) run ≡ Asks asked → IsHonest asked reply → IsOk (on_reply phase reply)
honest_expected call now wanted least route run phase asked reply is said honest =
    expected asked phase reply (rw said at (run_awaits call now wanted least route run phase is)) honest
