-- A dialogue is through with its call once it asks for the Return, and asks for nothing from then on.
use Rattle.std.proofs.Common.{◌≡◌, ◌++◌, ◌∙◌, ℕ, Bool, true, false, Option, Some, None, Ok, Err, List, [], ◌∷◌, refl, ap, All}
use Rattle.std.specs.Prelude.{if◌then◌else◌}
use Rattle.std.proofs.lemmas.Grind.{flat_map-append}
use Rattle.std.proofs.lemmas.List.Elements.{All-append, All-cons, All-nil}
use Rattle.account_core.specs.Asked.{Credits, Reserves, Returns, Settles}
use Rattle.account_core.specs.Entries.{EntryData}
use Rattle.account_core.specs.declared.entry.Reply.{Reply}
use Rattle.account_core.specs.declared.entry.Reply.TheVariants.{Granted, Denied, Settled, Forfeit, Returned}
use Rattle.cap_values.specs.declared.event.Event.TheVariants as event
use Rattle.cap_values.specs.declared.message.SsfMsg.{SsfMsg}
use Rattle.cap_values.specs.declared.message.SsfMsg.TheVariants as msg
use Rattle.cap_values.specs.declared.mode.Mode.TheVariants.{Interrupted, NotifyAndContinue, Transparent}
use Rattle.dialogue_core.specs.Phases.{Phase, Says, Sequel, FirstAsk, Running, Settling, MoreAsk, Returning, Ending, Closed, Asks, Sends, Finished}
use Rattle.dialogue_core.specs.Phases as phase
use Rattle.dialogue_core.specs.Rules.{Step, are_units, on_begin, on_message, on_refusal, on_reply, sequel}
use Rattle.dialogue_core.specs.declared.fault.DialogueFault.TheVariants.{Unexpected}
use Rattle.price_core.specs.declared.route.Route.{Route}
use Rattle.runs_core.proofs.OwnCalls.{SaysOf}
use Rattle.held_calls.proofs.Talked.{says_of_call}
use Rattle.runs_core.specs.Served.{returned_in, returns_of}
use Rattle.dialogue_core.specs.Talks.{Got, after_got, is_ask, or_done, talked}
use Rattle.runs_core.specs.Talks.{AllAsk, entries_of, entry_of, last_fault}
use Rattle.runs_core.specs.Workers.{IsAbout}

-- ---- a dialogue is through with its call once it has asked for the Return, or has nothing to return

abbrev pub is_through : Phase → Bool
is_through (FirstAsk t) = false
is_through (Running t) = false
is_through (Settling t active since) = false
is_through (MoreAsk t) = false
is_through (Returning after) = true
is_through Ending = true
is_through Closed = true

-- a Return is asked for by a dialogue that is through with its call
abbrev pub ReturnsLast : Says → Phase → Type 0
ReturnsLast (Asks (Credits amount until)) phase = Unit {0}
ReturnsLast (Asks (Reserves call plan wanted least at)) phase = Unit {0}
ReturnsLast (Asks (Settles call number info)) phase = Unit {0}
ReturnsLast (Asks (Returns call)) phase = is_through phase ≡ true
ReturnsLast (Sends orders) phase = Unit {0}
ReturnsLast Finished phase = Unit {0}

abbrev pub StepReturnsLast : Step → Type 0
StepReturnsLast (Ok next) = ReturnsLast next.0 next.1
StepReturnsLast (Err fault) = Unit {0}

last_given : (b : Bool) (orders : List _) (to : Phase) → StepReturnsLast (if b then Ok (Sends orders, to) else Err Unexpected)
last_given true orders to = tt
last_given false orders to = tt

last_sequel : (after : Sequel) → StepReturnsLast (Ok (sequel after))
last_sequel phase.Nothing = tt
last_sequel phase.Continues = tt
last_sequel phase.Clears = tt
last_sequel phase.Fails = tt
last_sequel phase.Closes = tt

last_replied : (phase : Phase) (reply : Reply) → StepReturnsLast (on_reply phase reply)
last_replied (FirstAsk t) (Granted units last a) = last_given (are_units units) _ (Running t)
last_replied (FirstAsk t) (Denied a) = tt
last_replied (FirstAsk t) reply = tt
last_replied (Running t) reply = tt
last_replied (Settling t true since) (Settled p a) = tt
last_replied (Settling t true since) (Forfeit p a) = refl
last_replied (Settling t true since) reply = tt
last_replied (Settling t false since) (Settled p a) = refl
last_replied (Settling t false since) (Forfeit p a) = refl
last_replied (Settling t false since) reply = tt
last_replied (MoreAsk t) (Granted units last a) = last_given (are_units units) _ (Running t)
last_replied (MoreAsk t) (Denied a) = refl
last_replied (MoreAsk t) reply = tt
last_replied (Returning after) (Returned p a) = last_sequel after
last_replied (Returning after) reply = tt
last_replied Ending reply = tt
last_replied Closed reply = tt

last_unanswered : (phase : Phase) → StepReturnsLast (on_refusal phase)
last_unanswered (FirstAsk t) = tt
last_unanswered (Running t) = tt
last_unanswered (Settling t true since) = refl
last_unanswered (Settling t false since) = refl
last_unanswered (MoreAsk t) = refl
last_unanswered (Returning after) = last_sequel after
last_unanswered Ending = tt
last_unanswered Closed = tt

last_or_done : (phase : Phase) (step : Step) → StepReturnsLast step → StepReturnsLast (Ok (or_done phase step))
last_or_done phase (Ok next) is = is
last_or_done phase (Err fault) is = tt

last_got : (phase : Phase) (got : Got) → StepReturnsLast (Ok (after_got phase got))
last_got phase (Ok reply) = last_or_done phase (on_reply phase reply) (last_replied phase reply)
last_got phase (Err fault) = last_or_done phase (on_refusal phase) (last_unanswered phase)

pub last_answer : (number at : ℕ) (phase : Phase) (message : SsfMsg) → StepReturnsLast (on_message phase number at message)
last_answer number at (FirstAsk t) message = tt
last_answer number at (Running t) (msg.InitialDp other calling called) = tt
last_answer number at (Running t) (msg.EventReport event.Answer leg mode) = tt
last_answer number at (Running t) (msg.EventReport event leg mode) = refl
last_answer number at (Running t) (msg.ChargingReport active info) = tt
last_answer number at (Running t) msg.Ended = refl
last_answer number at (Settling t active since) message = tt
last_answer number at (MoreAsk t) message = tt
last_answer number at (Returning after) message = tt
last_answer number at Ending (msg.InitialDp other calling called) = tt
last_answer number at Ending (msg.EventReport event leg Interrupted) = tt
last_answer number at Ending (msg.EventReport event leg NotifyAndContinue) = tt
last_answer number at Ending (msg.EventReport event leg Transparent) = tt
last_answer number at Ending (msg.ChargingReport active info) = tt
last_answer number at Ending msg.Ended = tt
last_answer number at Closed message = tt

pub last_begun : (call now wanted least : ℕ) (route : Option Route) → StepReturnsLast (Ok (on_begin call now wanted least route))
last_begun call now wanted least None = tt
last_begun call now wanted least (Some route) = tt

-- ---- from then on it asks for nothing

abbrev pub IsOver : Says × Phase → Type 0
IsOver next = (is_ask next.0 ≡ false) × (is_through next.1 ≡ true)

abbrev pub StepIsOver : Step → Type 0
StepIsOver (Ok next) = IsOver next
StepIsOver (Err fault) = Unit {0}

over_sequel : (after : Sequel) → IsOver (sequel after)
over_sequel phase.Nothing = (refl, refl)
over_sequel phase.Continues = (refl, refl)
over_sequel phase.Clears = (refl, refl)
over_sequel phase.Fails = (refl, refl)
over_sequel phase.Closes = (refl, refl)

over_replied : (phase : Phase) (reply : Reply) → is_through phase ≡ true → StepIsOver (on_reply phase reply)
over_replied (FirstAsk t) reply through = absurd (cc)
over_replied (Running t) reply through = tt
over_replied (Settling t active since) reply through = absurd (cc)
over_replied (MoreAsk t) reply through = absurd (cc)
over_replied (Returning after) (Returned p a) through = over_sequel after
over_replied (Returning after) reply through = tt
over_replied Ending reply through = tt
over_replied Closed reply through = tt

over_unanswered : (phase : Phase) → is_through phase ≡ true → StepIsOver (on_refusal phase)
over_unanswered (FirstAsk t) through = absurd (cc)
over_unanswered (Running t) through = tt
over_unanswered (Settling t active since) through = absurd (cc)
over_unanswered (MoreAsk t) through = absurd (cc)
over_unanswered (Returning after) through = over_sequel after
over_unanswered Ending through = tt
over_unanswered Closed through = tt

over_or_done : (phase : Phase) (step : Step) → is_through phase ≡ true → StepIsOver step → IsOver (or_done phase step)
over_or_done phase (Ok next) through is = is
over_or_done phase (Err fault) through is = (refl, through)

over_got : (phase : Phase) (got : Got) → is_through phase ≡ true → IsOver (after_got phase got)
over_got phase (Ok reply) through = over_or_done phase (on_reply phase reply) through (over_replied phase reply through)
over_got phase (Err fault) through = over_or_done phase (on_refusal phase) through (over_unanswered phase through)

pub over_answer : (number at : ℕ) (phase : Phase) (message : SsfMsg) → is_through phase ≡ true → StepIsOver (on_message phase number at message)
over_answer number at (FirstAsk t) message through = tt
over_answer number at (Running t) message through = absurd (cc)
over_answer number at (Settling t active since) message through = tt
over_answer number at (MoreAsk t) message through = tt
over_answer number at (Returning after) message through = tt
over_answer number at Ending (msg.InitialDp other calling called) through = tt
over_answer number at Ending (msg.EventReport event leg Interrupted) through = (refl, refl)
over_answer number at Ending (msg.EventReport event leg NotifyAndContinue) through = (refl, refl)
over_answer number at Ending (msg.EventReport event leg Transparent) through = (refl, refl)
over_answer number at Ending (msg.ChargingReport active info) through = tt
over_answer number at Ending msg.Ended through = (refl, refl)
over_answer number at Closed message through = tt

-- ---- in a talk

pub not_before : (a b : Bool) → (a ≡ true → b ≡ true) → b ≡ false → a ≡ false
not_before true b follows is = let never = follows refl in absurd (cc)
not_before false b follows is = refl

pub through_still : (first : Says × Phase) (gots : List Got) → is_through first.1 ≡ true → is_through (talked first gots).1 ≡ true
through_still first [] through = through
through_still first (got ∷ earlier) through = (over_got (talked first earlier).1 got (through_still first earlier through)).1

last_talked : (first : Says × Phase) (gots : List Got) → ReturnsLast first.0 first.1 → ReturnsLast (talked first gots).0 (talked first gots).1
last_talked first [] last = last
last_talked first (got ∷ earlier) last = last_got (talked first earlier).1 got

no_return : (seat : ℕ) (said : Says) (phase : Phase) (got : Got) → ReturnsLast said phase → is_through phase ≡ false → returns_of (entry_of seat said got) ≡ []
no_return seat (Asks asked) phase (Err fault) last not = refl
no_return seat (Asks (Credits amount until)) phase (Ok reply) last not = refl
no_return seat (Asks (Reserves call plan wanted least at)) phase (Ok reply) last not = refl
no_return seat (Asks (Settles call number info)) phase (Ok reply) last not = refl
no_return seat (Asks (Returns call)) phase (Ok reply) last not = absurd (cc)
no_return seat (Sends orders) phase got last not = refl
no_return seat Finished phase got last not = refl

-- a talk that doesn't end with it through has no Return
pub returns_none : (seat : ℕ) (first : Says × Phase) (gots : List Got) → ReturnsLast first.0 first.1 → is_through (talked first gots).1 ≡ false → returns_of (entries_of seat first gots) ≡ []
returns_none seat first [] last not = refl
returns_none seat first (got ∷ earlier) last not =
    let before : is_through (talked first earlier).1 ≡ false =
    not_before (is_through (talked first earlier).1) (is_through (talked first (got ∷ earlier)).1) (λ through. (over_got (talked first earlier).1 got through).1) not in
    flat_map-append (λ (e : EntryData). returned_in e.asked) (entries_of seat first earlier) (entry_of seat (talked first earlier).0 got)
    ∙ ap (λ l. l ++ returns_of (entry_of seat (talked first earlier).0 got)) (returns_none seat first earlier last before)
    ∙ no_return seat (talked first earlier).0 (talked first earlier).1 got (last_talked first earlier last) before

entry_returns : (seat call : ℕ) (said : Says) (got : Got) → SaysOf call said → All (λ c. c ≡ call) (returns_of (entry_of seat said got))
entry_returns seat call (Asks asked) (Err fault) says = All-nil (λ c. c ≡ call)
entry_returns seat call (Asks (Credits amount until)) (Ok reply) says = All-nil (λ c. c ≡ call)
entry_returns seat call (Asks (Reserves other plan wanted least at)) (Ok reply) says = All-nil (λ c. c ≡ call)
entry_returns seat call (Asks (Settles other number info)) (Ok reply) says = All-nil (λ c. c ≡ call)
entry_returns seat call (Asks (Returns other)) (Ok reply) says = All-cons (λ c. c ≡ call) other [] says (All-nil (λ c. c ≡ call))
entry_returns seat call (Sends orders) got says = All-nil (λ c. c ≡ call)
entry_returns seat call Finished got says = All-nil (λ c. c ≡ call)

-- the Returns of a talk are of its call
pub talk_returns : (seat call : ℕ) (first : Says × Phase) (gots : List Got) → IsAbout call first.1 → SaysOf call first.0 → All (λ c. c ≡ call) (returns_of (entries_of seat first gots))
talk_returns seat call first [] about says = All-nil (λ c. c ≡ call)
talk_returns seat call first (got ∷ earlier) about says =
    rw (flat_map-append (λ (e : EntryData). returned_in e.asked) (entries_of seat first earlier) (entry_of seat (talked first earlier).0 got))
    (All-append (λ c. c ≡ call) (returns_of (entries_of seat first earlier)) (returns_of (entry_of seat (talked first earlier).0 got)) (talk_returns seat call first earlier about says)
    (entry_returns seat call (talked first earlier).0 got (says_of_call call first earlier about says)))

-- a talk that begins with a Return has it, and no other one, where it has no fault
returns_once : (seat call : ℕ) (after : Sequel) (got : Got) (earlier : List Got) → AllAsk (Asks (Returns call), Returning after) (got ∷ earlier) → last_fault (got ∷ earlier) ≡ None
    → returns_of (entries_of seat (Asks (Returns call), Returning after) (got ∷ earlier)) ≡ call ∷ []
returns_once seat call after (Err fault) earlier asked none = absurd (cc)
returns_once seat call after (Ok reply) [] asked none = refl
returns_once seat call after (Ok reply) (last ∷ earlier) asked none =
    let first : Says × Phase = (Asks (Returns call), Returning after) in
    let rests : is_ask (talked first (last ∷ earlier)).0 ≡ false = (over_got (talked first earlier).1 last (through_still first earlier refl)).0 in
    let pending = asked.0 in absurd (cc)

pub talk_returns_once : (seat call : ℕ) (after : Sequel) (phase : Phase) (last : Says) (gots : List Got) → AllAsk (Asks (Returns call), Returning after) gots
    → talked (Asks (Returns call), Returning after) gots ≡ (last, phase) → is_ask last ≡ false → last_fault gots ≡ None
    → returns_of (entries_of seat (Asks (Returns call), Returning after) gots) ≡ call ∷ []
talk_returns_once seat call after phase last [] asked talk rests none =
    let is : Asks (Returns call) ≡ last = ap (λ (p : Says × Phase). p.0) talk in let never : true ≡ false = ap is_ask is ∙ rests in absurd (cc)
talk_returns_once seat call after phase last (got ∷ earlier) asked talk rests none = returns_once seat call after got earlier asked none
