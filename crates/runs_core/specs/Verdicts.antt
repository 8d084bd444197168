-- What a post comes to before anything is asked.
use Rattle.std.specs.Prelude.{ℕ, Bool, true, false, Option, Some, None, Ok, Err, List, option_and_then}
use Rattle.cap_values.specs.declared.message.SsfMsg.{SsfMsg}
use Rattle.cap_values.specs.declared.message.SsfMsg.TheVariants.{InitialDp, EventReport, ChargingReport, Ended}
use Rattle.cap_values.specs.declared.number.Number.{Number}
use Rattle.dialogue_core.specs.Phases.{Phase, Says}
use Rattle.dialogue_core.specs.Rules.{Step, on_message}
use Rattle.tariff_core.specs.Bands.{Band}
use Rattle.tariff_core.specs.Routes.{HasNoRoute, IsRoute}
use Rattle.price_core.specs.declared.route.Route.{Route}
use Rattle.run_values.specs.Setups.{Setup, account_of, place_of}
use Rattle.run_values.specs.declared.post.Body.{Body}
use Rattle.run_values.specs.declared.post.Body.TheVariants.{Ssf, Recharge}
use Rattle.run_values.specs.declared.post.Post.{Post}

-- a dialogue of a worker: where it is, and the place of its account in the ascending order
pub record DialogueAt : Type 0 where
  pub phase : Phase
  pub place : ℕ

-- the place of the account of a calling number, none where it isn't a subscriber's
abbrev pub home_of : Number → Setup → Option ℕ
home_of calling setup = option_and_then (λ account. place_of account setup) (account_of calling setup.subscribers)

-- it has no place here; the caller is unknown; the account at a place is recharged; a dialogue begins, of a call with an account's place to a
-- called number; or a dialogue goes on, with what it says and where it is
pub data Verdict : Type 0 where
  Strays : Verdict
  Rejects : Verdict
  Recharges : (place amount : ℕ) (until : Option ℕ) → Verdict
  Begins : (call place : ℕ) (called : Number) → Verdict
  GoesOn : (call place : ℕ) (said : Says) (phase : Phase) → Verdict

-- the route of a called number at a moment, if it has one
abbrev pub IsRouted : List Band → List ℕ → ℕ → Option Route → Type 0
IsRouted bands called at None = HasNoRoute bands called
IsRouted bands called at (Some route) = IsRoute bands called at route

-- a recharge, at the place of its account
abbrev pub recharged : ℕ → Option ℕ → Option ℕ → Verdict
recharged amount until None = Strays
recharged amount until (Some place) = Recharges place amount until

-- an InitialDP of a call without dialogue, at the place of the caller's account
abbrev pub begins : ℕ → Number → Option ℕ → Verdict
begins call called None = Rejects
begins call called (Some place) = Begins call place called

-- a message of a call without dialogue
abbrev pub fresh_call : Setup → ℕ → SsfMsg → Verdict
fresh_call setup call (InitialDp other calling called) = begins call called (home_of calling setup)
fresh_call setup call (EventReport event leg mode) = Strays
fresh_call setup call (ChargingReport active info) = Strays
fresh_call setup call Ended = Strays

-- a message of a call with a dialogue, which takes it or refuses it. An InitialDP is refused wherever it is
abbrev pub goes_on : ℕ → ℕ → Step → Verdict
goes_on call place (Ok next) = GoesOn call place next.0 next.1
goes_on call place (Err fault) = Strays

-- a message, by the call's dialogue
abbrev pub spoken : Setup → ℕ → ℕ → ℕ → SsfMsg → Option DialogueAt → Verdict
spoken setup number at call message None = fresh_call setup call message
spoken setup number at call message (Some standing) = goes_on call standing.place (on_message standing.phase number at message)

-- the verdict on a post with this number, moment and body, by the setup and the dialogues of the worker
abbrev pub verdict_on : Setup → (ℕ → Option DialogueAt) → ℕ → ℕ → Body → Verdict
verdict_on setup talks number at (Ssf call message) = spoken setup number at call message (talks call)
verdict_on setup talks number at (Recharge account amount until) = recharged amount until (place_of account setup)

-- the verdict on a post, by the setup and the dialogues of the worker
abbrev pub verdict : Setup → (ℕ → Option DialogueAt) → Post → Verdict
verdict setup talks post = verdict_on setup talks post.number post.at post.body

-- whether a post has no place
abbrev pub strays : Verdict → Bool
strays Strays = true
strays Rejects = false
strays (Recharges place amount until) = false
strays (Begins call place called) = false
strays (GoesOn call place said phase) = false
