-- The dialogue of a call asks for its call alone, and settles a report once.
use Rattle.std.proofs.Common.{◌≡◌, ℕ, Bool, true, false, Option, Some, None, Ok, Err, List, [], ◌∷◌, refl, ap, inl}
use Rattle.std.specs.Prelude.{if◌then◌else◌}
use Rattle.account_core.specs.Asked.{IsOfCall}
use Rattle.account_core.specs.declared.entry.Reply.{Reply}
use Rattle.account_core.specs.declared.entry.Reply.TheVariants.{Granted, Denied, Settled, Forfeit, Returned}
use Rattle.cap_values.specs.Orders.{Order}
use Rattle.cap_values.specs.declared.event.Event.TheVariants as event
use Rattle.cap_values.specs.declared.message.SsfMsg.{SsfMsg}
use Rattle.cap_values.specs.declared.message.SsfMsg.TheVariants as msg
use Rattle.cap_values.specs.declared.mode.Mode.TheVariants.{Interrupted, NotifyAndContinue, Transparent}
use Rattle.dialogue_core.specs.Phases.{Phase, Says, Sequel, FirstAsk, Running, Settling, MoreAsk, Returning, Ending, Closed, Asks, Sends, Finished}
use Rattle.dialogue_core.specs.Phases as phase
use Rattle.dialogue_core.specs.Rules.{Step, are_units, on_begin, on_reply, sequel, on_message, on_refusal}
use Rattle.dialogue_core.specs.declared.fault.DialogueFault.TheVariants.{Unexpected}
use Rattle.price_core.specs.declared.route.Route.{Route}
use Rattle.runs_core.specs.Served.{IsPart, Report, report_in, settled_in}
use Rattle.dialogue_core.specs.Talks.{Got, after_got, or_done, talked}
use Rattle.runs_core.specs.Workers.{IsAbout}

-- what is said asks for a call alone
abbrev pub SaysOf : ℕ → Says → Type 0
SaysOf call (Asks asked) = IsOfCall call asked
SaysOf call (Sends orders) = Unit {0}
SaysOf call Finished = Unit {0}

-- the report that is settled with what is said
abbrev pub settled_by : Says → List Report
settled_by (Asks asked) = settled_in asked
settled_by (Sends orders) = []
settled_by Finished = []

-- ---- after an answer of the account

abbrev KeepsTo : ℕ → Step → Type 0
KeepsTo call (Ok next) = IsAbout call next.1 × SaysOf call next.0 × (settled_by next.0 ≡ [])
KeepsTo call (Err fault) = Unit {0}

keeps_given : (call : ℕ) (b : Bool) (orders : List Order) (to : Phase) → IsAbout call to → KeepsTo call (if b then Ok (Sends orders, to) else Err Unexpected)
keeps_given call true orders to about = (about, tt, refl)
keeps_given call false orders to about = tt

keeps_sequel : (call : ℕ) (after : Sequel) → KeepsTo call (Ok (sequel after))
keeps_sequel call phase.Nothing = (tt, tt, refl)
keeps_sequel call phase.Continues = (tt, tt, refl)
keeps_sequel call phase.Clears = (tt, tt, refl)
keeps_sequel call phase.Fails = (tt, tt, refl)
keeps_sequel call phase.Closes = (tt, tt, refl)

keeps_replied : (call : ℕ) (phase : Phase) (reply : Reply) → IsAbout call phase → KeepsTo call (on_reply phase reply)
keeps_replied call (FirstAsk t) (Granted units last a) about = keeps_given call (are_units units) _ (Running t) about
keeps_replied call (FirstAsk t) (Denied a) about = (tt, tt, refl)
keeps_replied call (FirstAsk t) reply about = tt
keeps_replied call (Running t) reply about = tt
keeps_replied call (Settling t true since) (Settled p a) about = (about, about, refl)
keeps_replied call (Settling t true since) (Forfeit p a) about = (tt, about, refl)
keeps_replied call (Settling t true since) reply about = tt
keeps_replied call (Settling t false since) (Settled p a) about = (tt, about, refl)
keeps_replied call (Settling t false since) (Forfeit p a) about = (tt, about, refl)
keeps_replied call (Settling t false since) reply about = tt
keeps_replied call (MoreAsk t) (Granted units last a) about = keeps_given call (are_units units) _ (Running t) about
keeps_replied call (MoreAsk t) (Denied a) about = (tt, about, refl)
keeps_replied call (MoreAsk t) reply about = tt
keeps_replied call (Returning after) (Returned p a) about = keeps_sequel call after
keeps_replied call (Returning after) reply about = tt
keeps_replied call Ending reply about = tt
keeps_replied call Closed reply about = tt

keeps_unanswered : (call : ℕ) (phase : Phase) → IsAbout call phase → KeepsTo call (on_refusal phase)
keeps_unanswered call (FirstAsk t) about = (tt, tt, refl)
keeps_unanswered call (Running t) about = tt
keeps_unanswered call (Settling t true since) about = (tt, about, refl)
keeps_unanswered call (Settling t false since) about = (tt, about, refl)
keeps_unanswered call (MoreAsk t) about = (tt, about, refl)
keeps_unanswered call (Returning after) about = keeps_sequel call after
keeps_unanswered call Ending about = tt
keeps_unanswered call Closed about = tt

kept_or_done : (call : ℕ) (phase : Phase) (step : Step) → IsAbout call phase → KeepsTo call step → KeepsTo call (Ok (or_done phase step))
kept_or_done call phase (Ok next) about keeps = keeps
kept_or_done call phase (Err fault) about keeps = (about, tt, refl)

pub kept_got : (call : ℕ) (phase : Phase) (got : Got) → IsAbout call phase → KeepsTo call (Ok (after_got phase got))
kept_got call phase (Ok reply) about = kept_or_done call phase (on_reply phase reply) about (keeps_replied call phase reply about)
kept_got call phase (Err fault) about = kept_or_done call phase (on_refusal phase) about (keeps_unanswered call phase about)

-- ---- in a talk

pub talked_about : (call : ℕ) (first : Says × Phase) (gots : List Got) → IsAbout call first.1 → IsAbout call (talked first gots).1
talked_about call first [] about = about
talked_about call first (got ∷ earlier) about = (kept_got call (talked first earlier).1 got (talked_about call first earlier about)).0

-- ---- how a talk begins

pub begun_about : (call now wanted least : ℕ) (route : Option Route) → IsAbout call (on_begin call now wanted least route).1
begun_about call now wanted least None = tt
begun_about call now wanted least (Some route) = refl

-- a message that a dialogue takes: it stays about its call, asks for it alone, and settles the message's report at most
abbrev pub TakesTo : ℕ → ℕ → SsfMsg → Step → Type 0
TakesTo call number message (Ok next) = IsAbout call next.1 × SaysOf call next.0 × IsPart (settled_by next.0) (report_in number call message)
TakesTo call number message (Err fault) = Unit {0}

pub takes_answer : (call number at : ℕ) (phase : Phase) (message : SsfMsg) → IsAbout call phase → TakesTo call number message (on_message phase number at message)
takes_answer call number at (FirstAsk t) message about = tt
takes_answer call number at (Running t) (msg.InitialDp other calling called) about = tt
takes_answer call number at (Running t) (msg.EventReport event.Answer leg mode) about = (about, tt, tt)
takes_answer call number at (Running t) (msg.EventReport event leg mode) about = (tt, about, tt)
takes_answer call number at (Running t) (msg.ChargingReport active info) about = (about, about, inl (ap (λ c. (number, c, info)) about, tt))
takes_answer call number at (Running t) msg.Ended about = (tt, about, tt)
takes_answer call number at (Settling t active since) message about = tt
takes_answer call number at (MoreAsk t) message about = tt
takes_answer call number at (Returning after) message about = tt
takes_answer call number at Ending (msg.InitialDp other calling called) about = tt
takes_answer call number at Ending (msg.EventReport event leg Interrupted) about = (tt, tt, tt)
takes_answer call number at Ending (msg.EventReport event leg NotifyAndContinue) about = (tt, tt, tt)
takes_answer call number at Ending (msg.EventReport event leg Transparent) about = (tt, tt, tt)
takes_answer call number at Ending (msg.ChargingReport active info) about = tt
takes_answer call number at Ending msg.Ended about = (tt, tt, tt)
takes_answer call number at Closed message about = tt
