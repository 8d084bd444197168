-- What a dialogue asks for fits what is known of its call, ask by ask.
use Rattle.std.proofs.Common.{◌≡◌, ℕ, Bool, true, false, Option, Some, None, Ok, Err, List, refl}
use Rattle.std.specs.Prelude.{◌&&◌, if◌then◌else◌, is_some, not}
use Rattle.account_core.specs.Asked.{Asked, Reserves, Returns, Settles}
use Rattle.account_core.specs.Known.{CallFacts, deed_of, known_after}
use Rattle.account_core.specs.declared.entry.Reply.{Reply}
use Rattle.account_core.specs.declared.entry.Reply.TheVariants.{Granted, Denied, Settled, Forfeit, Returned}
use Rattle.cap_values.specs.Orders.{Order}
use Rattle.cap_values.specs.declared.event.Event.TheVariants as event
use Rattle.cap_values.specs.declared.message.SsfMsg.{SsfMsg}
use Rattle.cap_values.specs.declared.message.SsfMsg.TheVariants as msg
use Rattle.cap_values.specs.declared.mode.Mode.TheVariants.{Interrupted, NotifyAndContinue, Transparent}
use Rattle.dialogue_core.specs.Phases as phase
use Rattle.dialogue_core.specs.Phases.{Conditions, Phase, Says, Sequel, FirstAsk, Running, Settling, MoreAsk, Returning, Ending, Closed, Asks, Sends, Finished}
use Rattle.dialogue_core.specs.Rules.{Step, are_units, on_begin, on_message, on_refusal, on_reply, sequel}
use Rattle.dialogue_core.specs.Talks.{Got, after_got, or_done}
use Rattle.dialogue_core.specs.declared.fault.DialogueFault.TheVariants.{Unexpected}
use Rattle.held_calls.specs.Held.{IsShown}
use Rattle.price_core.specs.Rates.{Rates}
use Rattle.price_core.specs.declared.route.Route.{Route}

-- what is asked for in a phase
abbrev pub Awaits : Phase → Asked → Type 0
Awaits (FirstAsk t) (Reserves call plan wanted least at) = Unit {0}
Awaits (Settling t active since) (Settles call number info) = Unit {0}
Awaits (MoreAsk t) (Reserves call plan wanted least at) = Unit {0}
Awaits (Returning after) (Returns call) = Unit {0}
Awaits phase asked = ⊥

-- what is said fits the phase
abbrev pub Fits : Says → Phase → Type 0
Fits (Asks asked) phase = Awaits phase asked
Fits (Sends orders) phase = Unit {0}
Fits Finished phase = Unit {0}

-- and what is known of the call fits it
abbrev pub Stands : CallFacts → Says × Phase → Type 0
Stands facts next = Fits next.0 next.1 × IsShown next.1 facts

abbrev pub StepStands : CallFacts → Step → Type 0
StepStands facts (Ok next) = Stands facts next
StepStands facts (Err fault) = Unit {0}

-- ---- after a reply

stands_after : (facts : CallFacts) (after : Sequel) → Stands facts (sequel after)
stands_after facts phase.Nothing = (tt, tt)
stands_after facts phase.Continues = (tt, tt)
stands_after facts phase.Clears = (tt, tt)
stands_after facts phase.Fails = (tt, tt)
stands_after facts phase.Closes = (tt, tt)

first_stands : (facts : CallFacts) (t : Conditions) (b : Bool) (orders : List Order) → facts.returned ≡ false → facts.awaits ≡ true → is_some facts.plan ≡ true
    → Stands facts (or_done (FirstAsk t) (if b then Ok (Sends orders, Running t) else Err Unexpected))
first_stands facts t true orders not_yet awaits granted = (tt, ((rw (granted, not_yet) refl), awaits))
first_stands facts t false orders not_yet awaits granted = (tt, not_yet)

more_stands : (facts : CallFacts) (t : Conditions) (b : Bool) (orders : List Order) → (is_some facts.plan && not facts.returned) ≡ true → facts.awaits ≡ true
    → Stands facts (or_done (MoreAsk t) (if b then Ok (Sends orders, Running t) else Err Unexpected))
more_stands facts t true orders opened awaits = (tt, (opened, awaits))
more_stands facts t false orders opened awaits = (tt, opened)

still_open : (plan : Option Rates) (returned : Bool) → (is_some plan && not returned) ≡ true → not returned ≡ true
still_open None returned is = cc
still_open (Some plan) returned is = is

reply_stands : (facts : CallFacts) (phase : Phase) (asked : Asked) (reply : Reply) → Awaits phase asked → IsShown phase facts
    → Stands (known_after facts (deed_of asked reply)) (or_done phase (on_reply phase reply))
reply_stands facts (FirstAsk t) (Reserves call plan wanted least at) (Granted units last a) fits shown =
    first_stands (known_after facts (deed_of (Reserves call plan wanted least at) (Granted units last a))) t (are_units units) _ shown refl refl
reply_stands facts (FirstAsk t) (Reserves call plan wanted least at) (Denied a) fits shown = (tt, tt)
reply_stands facts (FirstAsk t) (Reserves call plan wanted least at) reply fits shown = (tt, shown)
reply_stands facts (Settling t true since) (Settles call number info) (Settled p a) fits shown = (tt, shown.0)
reply_stands facts (Settling t true since) (Settles call number info) (Forfeit p a) fits shown = (tt, shown.0)
reply_stands facts (Settling t true since) (Settles call number info) reply fits shown = (tt, shown)
reply_stands facts (Settling t false since) (Settles call number info) (Settled p a) fits shown = (tt, shown.0)
reply_stands facts (Settling t false since) (Settles call number info) (Forfeit p a) fits shown = (tt, shown.0)
reply_stands facts (Settling t false since) (Settles call number info) reply fits shown = (tt, shown)
reply_stands facts (MoreAsk t) (Reserves call plan wanted least at) (Granted units last a) fits shown =
    more_stands (known_after facts (deed_of (Reserves call plan wanted least at) (Granted units last a))) t (are_units units) _ (still_open facts.plan facts.returned shown) refl
reply_stands facts (MoreAsk t) (Reserves call plan wanted least at) (Denied a) fits shown = (tt, shown)
reply_stands facts (MoreAsk t) (Reserves call plan wanted least at) reply fits shown = (tt, shown)
reply_stands facts (Returning after) (Returns call) (Returned p a) fits shown = stands_after _ after
reply_stands facts (Returning after) (Returns call) reply fits shown = (tt, shown)
reply_stands facts phase asked reply fits shown = absurd fits

-- ---- after a refusal

refusal_stands : (facts : CallFacts) (phase : Phase) (asked : Asked) → Awaits phase asked → IsShown phase facts → Stands facts (or_done phase (on_refusal phase))
refusal_stands facts (FirstAsk t) asked fits shown = (tt, tt)
refusal_stands facts (Running t) asked fits shown = absurd fits
refusal_stands facts (Settling t true since) asked fits shown = (tt, shown.0)
refusal_stands facts (Settling t false since) asked fits shown = (tt, shown.0)
refusal_stands facts (MoreAsk t) asked fits shown = (tt, shown)
refusal_stands facts (Returning after) asked fits shown = stands_after facts after
refusal_stands facts Ending asked fits shown = absurd fits
refusal_stands facts Closed asked fits shown = absurd fits

-- what is known after what an ask got
abbrev pub facts_after : CallFacts → Asked → Got → CallFacts
facts_after facts asked (Ok reply) = known_after facts (deed_of asked reply)
facts_after facts asked (Err fault) = facts

pub got_stands : (facts : CallFacts) (phase : Phase) (asked : Asked) (got : Got) → Awaits phase asked → IsShown phase facts → Stands (facts_after facts asked got) (after_got phase got)
got_stands facts phase asked (Ok reply) fits shown = reply_stands facts phase asked reply fits shown
got_stands facts phase asked (Err fault) fits shown = refusal_stands facts phase asked fits shown

-- ---- how a talk begins

pub begun_stands : (facts : CallFacts) (call now wanted least : ℕ) (route : Option Route) → facts.returned ≡ false → Stands facts (on_begin call now wanted least route)
begun_stands facts call now wanted least None not_yet = (tt, tt)
begun_stands facts call now wanted least (Some route) not_yet = (tt, not_yet)

pub answer_stands : (facts : CallFacts) (number at : ℕ) (phase : Phase) (message : SsfMsg) → IsShown phase facts → StepStands facts (on_message phase number at message)
answer_stands facts number at (FirstAsk t) message shown = tt
answer_stands facts number at (Running t) (msg.InitialDp other calling called) shown = tt
answer_stands facts number at (Running t) (msg.EventReport event.Answer leg mode) shown = (tt, shown)
answer_stands facts number at (Running t) (msg.EventReport event leg mode) shown = (tt, shown.0)
answer_stands facts number at (Running t) (msg.ChargingReport active info) shown = (tt, shown)
answer_stands facts number at (Running t) msg.Ended shown = (tt, shown.0)
answer_stands facts number at (Settling t active since) message shown = tt
answer_stands facts number at (MoreAsk t) message shown = tt
answer_stands facts number at (Returning after) message shown = tt
answer_stands facts number at Ending (msg.InitialDp other calling called) shown = tt
answer_stands facts number at Ending (msg.EventReport event leg Interrupted) shown = (tt, tt)
answer_stands facts number at Ending (msg.EventReport event leg NotifyAndContinue) shown = (tt, tt)
answer_stands facts number at Ending (msg.EventReport event leg Transparent) shown = (tt, tt)
answer_stands facts number at Ending (msg.ChargingReport active info) shown = tt
answer_stands facts number at Ending msg.Ended shown = (tt, tt)
answer_stands facts number at Closed message shown = tt
