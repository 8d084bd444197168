-- What a run of a dialogue has asked by the phase that it has come to.
use Rattle.std.proofs.Common.{◌≡◌, ℕ, ◌+◌, ◌≤◌, Bool, true, false, List, [], ◌∷◌, Option, Some, None, Ok, Err, refl, arith}
use Rattle.std.specs.Prelude.{◌||◌, if◌then◌else◌, ⊤}
use Rattle.account_core.specs.declared.entry.Reply.{Reply}
use Rattle.account_core.specs.declared.entry.Reply.TheVariants.{Credited, CreditOver, Granted, Denied, Settled, Forfeit, Returned}
use Rattle.cap_values.specs.declared.event.Event.{Event}
use Rattle.cap_values.specs.declared.event.Event.TheVariants as event
use Rattle.cap_values.specs.declared.message.SsfMsg.{SsfMsg}
use Rattle.cap_values.specs.declared.message.SsfMsg.TheVariants as msg
use Rattle.cap_values.specs.declared.mode.Mode.{Mode}
use Rattle.cap_values.specs.Orders.{Pay}
use Rattle.dialogue_core.specs.Phases.{Conditions, Phase, Sequel, FirstAsk, Running, Settling, MoreAsk, Returning, Ending, Closed, Sends}
use Rattle.dialogue_core.specs.Phases as phase
use Rattle.held_calls.specs.Dialogues.{Exchange, Input, IsDialogueRun, Message, Answer, Refusal, is_grant_input, is_over, returns_asked, returns_in, settles_in, settles_since_grant, step, was_granted}
use Rattle.dialogue_core.specs.Rules.{Step, are_units, on_begin, ending, says_first_period, first_reply, going_on, more_reply, on_reply, event_reported, while_running, sequel}
use Rattle.dialogue_core.specs.declared.fault.DialogueFault.TheVariants.{Unexpected}
use Rattle.price_core.specs.declared.route.Route.{Route}

-- the settles since the last grant, the returns, and whether there was a grant, by the phase
pub record Counts (settles returns most owed : ℕ) (granted was : Bool) : Type 0 where
  pub settled : settles ≤ most
  pub returned : returns ≡ owed
  pub grants : granted ≡ was

abbrev owed_by : Bool → ℕ
owed_by granted = if granted then 1 else 0

abbrev PhaseCounts : Phase → ℕ → ℕ → Bool → Type 0
PhaseCounts (FirstAsk t) s r g = Counts s r 0 0 g false
PhaseCounts (Running t) s r g = Counts s r 0 0 g true
PhaseCounts (Settling t active since) s r g = Counts s r 1 0 g true
PhaseCounts (MoreAsk t) s r g = Counts s r 1 0 g true
PhaseCounts (Returning after) s r g = Counts s r 1 1 g true
PhaseCounts Ending s r g = Counts s r 1 (owed_by g) g g
PhaseCounts Closed s r g = Counts s r 1 (owed_by g) g g

-- a step keeps the counts
abbrev Keeps : Input → ℕ → ℕ → Bool → Step → Type 0
Keeps input s r g (Ok next) =
    PhaseCounts next.1 (if is_grant_input input then settles_in next.0 else settles_in next.0 + s) (returns_in next.0 + r) (is_grant_input input || g)
Keeps input s r g (Err fault) = ⊤

-- the end of a return
ends : (after : Sequel) (s r : ℕ) (g : Bool) → s ≤ 1 → r ≡ 1 → g ≡ true → (input : Input) → is_grant_input input ≡ false → Keeps input s r g (Ok (sequel after))
ends phase.Nothing s r g settled returned grants input plain = rw (plain, grants) (record { settled = omega arith; returned = omega arith; grants = refl })
ends phase.Continues s r g settled returned grants input plain = rw (plain, grants) (record { settled = omega arith; returned = omega arith; grants = refl })
ends phase.Clears s r g settled returned grants input plain = rw (plain, grants) (record { settled = omega arith; returned = omega arith; grants = refl })
ends phase.Fails s r g settled returned grants input plain = rw (plain, grants) (record { settled = omega arith; returned = omega arith; grants = refl })
ends phase.Closes s r g settled returned grants input plain = rw (plain, grants) (record { settled = omega arith; returned = omega arith; grants = refl })

over : (after : Sequel) (s r : ℕ) (g : Bool) → s ≤ 1 → r ≡ owed_by g → (input : Input) → is_grant_input input ≡ false → Keeps input s r g (Ok (sequel after))
over phase.Nothing s r g settled returned input plain = rw plain (record { settled = omega arith; returned = omega (arith, returned); grants = refl })
over phase.Continues s r g settled returned input plain = rw plain (record { settled = omega arith; returned = omega (arith, returned); grants = refl })
over phase.Clears s r g settled returned input plain = rw plain (record { settled = omega arith; returned = omega (arith, returned); grants = refl })
over phase.Fails s r g settled returned input plain = rw plain (record { settled = omega arith; returned = omega (arith, returned); grants = refl })
over phase.Closes s r g settled returned input plain = rw plain (record { settled = omega arith; returned = omega (arith, returned); grants = refl })

keeps_event : (t : Conditions) (number at : ℕ) (message : SsfMsg) (e : Event) (m : Mode) (s r : ℕ) (g : Bool) → Counts s r 0 0 g true
    → Keeps (Message number at message) s r g (event_reported t e m)
keeps_event t number at message event.Answer m s r g c = record { settled = omega arith; returned = omega arith; grants = c.grants }
keeps_event t number at message event.CollectedInfo m s r g c = record { settled = omega arith; returned = omega arith; grants = c.grants }
keeps_event t number at message event.RouteSelectFailure m s r g c = record { settled = omega arith; returned = omega arith; grants = c.grants }
keeps_event t number at message event.CalledPartyBusy m s r g c = record { settled = omega arith; returned = omega arith; grants = c.grants }
keeps_event t number at message event.NoAnswer m s r g c = record { settled = omega arith; returned = omega arith; grants = c.grants }
keeps_event t number at message event.Disconnect m s r g c = record { settled = omega arith; returned = omega arith; grants = c.grants }
keeps_event t number at message event.Abandon m s r g c = record { settled = omega arith; returned = omega arith; grants = c.grants }

keeps_running : (t : Conditions) (number at : ℕ) (message : SsfMsg) (s r : ℕ) (g : Bool) → Counts s r 0 0 g true
    → Keeps (Message number at message) s r g (while_running t number at message)
keeps_running t number at (msg.InitialDp call calling called) s r g c = tt
keeps_running t number at (msg.EventReport e leg m) s r g c = keeps_event t number at (msg.EventReport e leg m) e m s r g c
keeps_running t number at (msg.ChargingReport active info) s r g c = record { settled = omega arith; returned = omega arith; grants = c.grants }
keeps_running t number at msg.Ended s r g c = record { settled = omega arith; returned = omega arith; grants = c.grants }

keeps_ending : (number at : ℕ) (message : SsfMsg) (s r : ℕ) (g : Bool) → Counts s r 1 (owed_by g) g g → Keeps (Message number at message) s r g (ending message)
keeps_ending number at (msg.InitialDp call calling called) s r g c = tt
keeps_ending number at (msg.EventReport e leg m) s r g c = over (going_on m) s r g c.settled c.returned (Message number at (msg.EventReport e leg m)) refl
keeps_ending number at (msg.ChargingReport active info) s r g c = tt
keeps_ending number at msg.Ended s r g c = over phase.Closes s r g c.settled c.returned (Message number at msg.Ended) refl

grant_first : (t : Conditions) (units a : ℕ) (last b : Bool) (s r : ℕ) (g : Bool) → Counts s r 0 0 g false
    → Keeps (Answer (Granted units last a)) s r g (if b then Ok (says_first_period t units last, Running t) else Err Unexpected)
grant_first t units a last true s r g c = record { settled = omega arith; returned = omega (arith, c.returned); grants = refl }
grant_first t units a last false s r g c = tt

keeps_first : (t : Conditions) (reply : Reply) (s r : ℕ) (g : Bool) → Counts s r 0 0 g false → Keeps (Answer reply) s r g (first_reply t reply)
keeps_first t (Credited a) s r g c = tt
keeps_first t (CreditOver a) s r g c = tt
keeps_first t (Granted units last a) s r g c = grant_first t units a last (are_units units) s r g c
keeps_first t (Denied a) s r g c = rw c.grants (record { settled = omega (arith, c.settled); returned = omega (arith, c.returned); grants = refl })
keeps_first t (Settled p a) s r g c = tt
keeps_first t (Forfeit p a) s r g c = tt
keeps_first t (Returned p a) s r g c = tt

keeps_settling : (t : Conditions) (active : Bool) (since : ℕ) (reply : Reply) (s r : ℕ) (g : Bool) → Counts s r 1 0 g true
    → Keeps (Answer reply) s r g (on_reply (Settling t active since) reply)
keeps_settling t true since (Settled p a) s r g c = record { settled = omega (arith, c.settled); returned = omega (arith, c.returned); grants = c.grants }
keeps_settling t true since (Forfeit p a) s r g c = record { settled = omega (arith, c.settled); returned = omega (arith, c.returned); grants = c.grants }
keeps_settling t true since (Credited a) s r g c = tt
keeps_settling t true since (CreditOver a) s r g c = tt
keeps_settling t true since (Granted units last a) s r g c = tt
keeps_settling t true since (Denied a) s r g c = tt
keeps_settling t true since (Returned p a) s r g c = tt
keeps_settling t false since (Settled p a) s r g c = record { settled = omega (arith, c.settled); returned = omega (arith, c.returned); grants = c.grants }
keeps_settling t false since (Forfeit p a) s r g c = record { settled = omega (arith, c.settled); returned = omega (arith, c.returned); grants = c.grants }
keeps_settling t false since (Credited a) s r g c = tt
keeps_settling t false since (CreditOver a) s r g c = tt
keeps_settling t false since (Granted units last a) s r g c = tt
keeps_settling t false since (Denied a) s r g c = tt
keeps_settling t false since (Returned p a) s r g c = tt

grant_more : (t : Conditions) (units a : ℕ) (last b : Bool) (s r : ℕ) (g : Bool) → Counts s r 1 0 g true
    → Keeps (Answer (Granted units last a)) s r g (if b then Ok (Sends (Pay units None last ∷ []), Running t) else Err Unexpected)
grant_more t units a last true s r g c = record { settled = omega arith; returned = omega (arith, c.returned); grants = refl }
grant_more t units a last false s r g c = tt

keeps_more : (t : Conditions) (reply : Reply) (s r : ℕ) (g : Bool) → Counts s r 1 0 g true → Keeps (Answer reply) s r g (more_reply t reply)
keeps_more t (Credited a) s r g c = tt
keeps_more t (CreditOver a) s r g c = tt
keeps_more t (Granted units last a) s r g c = grant_more t units a last (are_units units) s r g c
keeps_more t (Denied a) s r g c = record { settled = omega (arith, c.settled); returned = omega (arith, c.returned); grants = c.grants }
keeps_more t (Settled p a) s r g c = tt
keeps_more t (Forfeit p a) s r g c = tt
keeps_more t (Returned p a) s r g c = tt

keeps_return : (after : Sequel) (reply : Reply) (s r : ℕ) (g : Bool) → Counts s r 1 1 g true → Keeps (Answer reply) s r g (on_reply (Returning after) reply)
keeps_return after (Credited a) s r g c = tt
keeps_return after (CreditOver a) s r g c = tt
keeps_return after (Granted units last a) s r g c = tt
keeps_return after (Denied a) s r g c = tt
keeps_return after (Settled p a) s r g c = tt
keeps_return after (Forfeit p a) s r g c = tt
keeps_return after (Returned p a) s r g c = ends after s r g c.settled c.returned c.grants (Answer (Returned p a)) refl

keeps : (phase : Phase) (input : Input) (s r : ℕ) (g : Bool) → PhaseCounts phase s r g → Keeps input s r g (step phase input)
keeps (FirstAsk t) (Message number at message) s r g c = tt
keeps (FirstAsk t) (Answer reply) s r g c = keeps_first t reply s r g c
keeps (FirstAsk t) Refusal s r g c = rw c.grants (record { settled = omega (arith, c.settled); returned = omega (arith, c.returned); grants = refl })
keeps (Running t) (Message number at message) s r g c = keeps_running t number at message s r g c
keeps (Running t) (Answer reply) s r g c = tt
keeps (Running t) Refusal s r g c = tt
keeps (Settling t active since) (Message number at message) s r g c = tt
keeps (Settling t active since) (Answer reply) s r g c = keeps_settling t active since reply s r g c
keeps (Settling t true since) Refusal s r g c = record { settled = omega (arith, c.settled); returned = omega (arith, c.returned); grants = c.grants }
keeps (Settling t false since) Refusal s r g c = record { settled = omega (arith, c.settled); returned = omega (arith, c.returned); grants = c.grants }
keeps (MoreAsk t) (Message number at message) s r g c = tt
keeps (MoreAsk t) (Answer reply) s r g c = keeps_more t reply s r g c
keeps (MoreAsk t) Refusal s r g c = record { settled = omega (arith, c.settled); returned = omega (arith, c.returned); grants = c.grants }
keeps (Returning after) (Message number at message) s r g c = tt
keeps (Returning after) (Answer reply) s r g c = keeps_return after reply s r g c
keeps (Returning after) Refusal s r g c = ends after s r g c.settled c.returned c.grants Refusal refl
keeps Ending (Message number at message) s r g c = keeps_ending number at message s r g c
keeps Ending (Answer reply) s r g c = tt
keeps Ending Refusal s r g c = tt
keeps Closed (Message number at message) s r g c = tt
keeps Closed (Answer reply) s r g c = tt
keeps Closed Refusal s r g c = tt

begins : (call now wanted least : ℕ) (route : Option Route) → PhaseCounts (on_begin call now wanted least route).1 0 0 false
begins call now wanted least None = record { settled = omega arith; returned = refl; grants = refl }
begins call now wanted least (Some route) = record { settled = omega arith; returned = refl; grants = refl }

-- the counts of a run
pub phase_counts : (call now wanted least : ℕ) (route : Option Route) (run : List Exchange) (phase : Phase) → IsDialogueRun (on_begin call now wanted least route) run phase
    → PhaseCounts phase (settles_since_grant run) (returns_asked run) (was_granted run)
phase_counts call now wanted least route [] phase is = rw (← is) (begins call now wanted least route)
phase_counts call now wanted least route (exchange ∷ earlier) phase (before, runs, is) =
    rw is at (keeps before exchange.input _ _ _ (phase_counts call now wanted least route earlier before runs))

settled_once : (phase : Phase) (s r : ℕ) (g : Bool) → PhaseCounts phase s r g → s ≤ 1
settled_once (FirstAsk t) s r g c = omega (arith, c.settled)
settled_once (Running t) s r g c = omega (arith, c.settled)
settled_once (Settling t active since) s r g c = c.settled
settled_once (MoreAsk t) s r g c = c.settled
settled_once (Returning after) s r g c = c.settled
settled_once Ending s r g c = c.settled
settled_once Closed s r g c = c.settled

pub one_settle : (call now wanted least : ℕ) (route : Option Route) (run : List Exchange) (phase : Phase) → IsDialogueRun (on_begin call now wanted least route) run phase
    → settles_since_grant run ≤ 1
one_settle call now wanted least route run phase is = settled_once phase _ _ _ (phase_counts call now wanted least route run phase is)

returned_once : (phase : Phase) (s r : ℕ) (g : Bool) → PhaseCounts phase s r g → is_over phase ≡ true → r ≡ owed_by g
returned_once (FirstAsk t) s r g c over = cc
returned_once (Running t) s r g c over = cc
returned_once (Settling t active since) s r g c over = cc
returned_once (MoreAsk t) s r g c over = cc
returned_once (Returning after) s r g c over = cc
returned_once Ending s r g c over = c.returned
returned_once Closed s r g c over = c.returned

pub one_return : (call now wanted least : ℕ) (route : Option Route) (run : List Exchange) (phase : Phase) → IsDialogueRun (on_begin call now wanted least route) run phase
    → is_over phase ≡ true → returns_asked run ≡ (if was_granted run then 1 else 0)
one_return call now wanted least route run phase is over = returned_once phase _ _ _ (phase_counts call now wanted least route run phase is) over
