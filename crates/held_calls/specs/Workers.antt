-- What holds of every talk, and of all that a worker has handled.
use Rattle.std.specs.Prelude.{◌≡◌, ◌≢◌, ◌==◌, ◌++◌, ℕ, Bool, true, false, Option, Some, None, List, [], ◌∷◌, All, Contains, if◌then◌else◌, length, map, slice_index_or}
use Rattle.std.specs.Map.{keys_of}
use Rattle.account_core.specs.Asked.{Asked, Credits, Reserves, Returns, Settles}
use Rattle.account_core.specs.Entries.{EntryData}
use Rattle.account_core.specs.declared.fault.AccountFault.{AccountFault}
use Rattle.cap_values.specs.NumberDigits.{digits_of_number}
use Rattle.cap_values.specs.declared.message.SsfMsg.{SsfMsg}
use Rattle.cap_values.specs.declared.event.Event.TheVariants as event
use Rattle.cap_values.specs.declared.message.SsfMsg.TheVariants.{InitialDp, EventReport, ChargingReport, Ended}
use Rattle.cap_values.specs.declared.number.Number.{Number}
use Rattle.dialogue_core.specs.Phases.{Conditions, Phase, Running, Says}
use Rattle.price_core.specs.Rates.{Rates}
use Rattle.price_core.specs.RatesOf.{rates_of}
use Rattle.tariff_core.specs.Routes.{HasNoRoute, IsRoute}
use Rattle.price_core.specs.declared.route.Route.{Route}
use Rattle.price_core.specs.declared.times.TimeInfo.{TimeInfo}
use Rattle.runs_core.specs.Chains.{at_first, seat_numbers}
use Rattle.held_calls.specs.Chains.{AreHandled, IsHandledOnce, IsWorked}
use Rattle.runs_core.specs.Handled.{Holding, IsTalked, AnswerView}
use Rattle.runs_core.specs.Served.{AreServed, IsPart, Money, Report, credits_of, recharged_in, reports_of, returns_of, settles_of}
use Rattle.run_values.specs.Setups.{Setup, place_of}
use Rattle.dialogue_core.specs.Talks.{is_ask, orders_sent_by}
use Rattle.runs_core.specs.Verdicts.{home_of}
use Rattle.run_values.specs.declared.post.Body.{Body}
use Rattle.run_values.specs.declared.post.Body.TheVariants.{Ssf}
use Rattle.run_values.specs.declared.post.Post.{Post}

-- where a dialogue asks nothing at first, what it says is sent just so, and no ask was refused
abbrev pub WhatIsSaidIsSent : Type 0
WhatIsSaidIsSent =
    (numbers : List ℕ) (call place : ℕ) (first : Says × Phase) (old new : Holding) (answer : AnswerView) → is_ask first.0 ≡ false
    → IsTalked numbers call place first old new answer → (answer.orders ≡ orders_sent_by first.0) × (answer.refused ≡ None)

-- each entry of a worker comes from what it handled
abbrev pub EntriesComeFromPosts : Type 0
EntriesComeFromPosts =
    (setup : Setup) (number : ℕ) (posts : List Post) (refusals : List (Option AccountFault)) (lists : List (List EntryData)) → IsWorked setup number posts refusals lists
    → AreServed (keys_of setup.accounts) posts lists

-- ---- recharges

-- the money that an account is credited with for a post: that of a recharge of it, none where the recharge was refused
abbrev pub credited_by : ℕ → Body → Option AccountFault → List Money
credited_by account body None = recharged_in account body
credited_by account body (Some fault) = []

-- the money of the recharges of an account among posts, without those that were refused
abbrev pub accepted_of : ℕ → List Post → List (Option AccountFault) → List Money
accepted_of account [] refusals = []
accepted_of account (post ∷ posts) [] = []
accepted_of account (post ∷ posts) (refusal ∷ refusals) = credited_by account post.body refusal ++ accepted_of account posts refusals

-- the Credits of an account by a worker are just the recharges of it that the worker handled and that weren't refused, in order
abbrev pub RechargesAreEntered : Type 0
RechargesAreEntered =
    (setup : Setup) (number account place : ℕ) (posts : List Post) (refusals : List (Option AccountFault)) (lists : List (List EntryData))
    → IsWorked setup number posts refusals lists → place_of account setup ≡ Some place
    → credits_of (slice_index_or lists place []) ≡ accepted_of account posts refusals

-- ---- Reserves

-- a call had an InitialDP among posts, from a subscriber of the account at a place to a number with a route at that moment; time of the call is
-- asked for by the plan of that route, as much as the service wants, and at least what the service takes
pub record HasBegun (setup : Setup) (place : ℕ) (posts : List Post) (call : ℕ) (plan : Rates) (wanted least : ℕ) : Type 0 where
  pub post : Post
  pub stands : Contains posts post
  pub other : ℕ
  pub calling : Number
  pub called : Number
  pub is : post.body ≡ Ssf call (InitialDp other calling called)
  pub home : home_of calling setup ≡ Some place
  pub route : Route
  pub routed : IsRoute setup.tariff (digits_of_number called) post.at route
  pub plan_is : plan ≡ rates_of route.plan
  pub wanted_is : wanted ≡ setup.service.wanted
  pub least_is : least ≡ setup.service.least

-- a call had a message among posts at a moment
pub record HasMessage (posts : List Post) (call at : ℕ) : Type 0 where
  pub post : Post
  pub stands : Contains posts post
  pub message : SsfMsg
  pub is : post.body ≡ Ssf call message
  pub moment : post.at ≡ at

-- where time is asked for from the account at a place, the call has begun there on these terms, and it is asked for at the moment of a message of the call
abbrev pub IsOnTerms : Setup → ℕ → List Post → Asked → Type 0
IsOnTerms setup place posts (Credits amount until) = Unit {0}
IsOnTerms setup place posts (Reserves call plan wanted least at) = HasBegun setup place posts call plan wanted least × HasMessage posts call at
IsOnTerms setup place posts (Settles call number info) = Unit {0}
IsOnTerms setup place posts (Returns call) = Unit {0}

-- each Reserve by a worker is on the terms of its call
abbrev pub ReservesAreOnTerms : Type 0
ReservesAreOnTerms =
    (setup : Setup) (number place : ℕ) (posts : List Post) (refusals : List (Option AccountFault)) (lists : List (List EntryData))
    → IsWorked setup number posts refusals lists → All (λ entry. IsOnTerms setup place posts entry.asked) (slice_index_or lists place [])

-- ---- what a dialogue asks first

-- a worker handles a post after others, and nothing that it asks for it is refused: what it holds before it, and its lists once it has handled all posts
pub record IsHandledAfter (setup : Setup) (number : ℕ) (before : List Post) (post : Post) (lists : List (List EntryData)) (old : Holding) : Type 0 where
  pub refused : List (Option AccountFault)
  pub begins : AreHandled setup (seat_numbers number setup) before refused (at_first setup) old
  pub between : Holding
  pub handles : IsHandledOnce setup (seat_numbers number setup) post None old between
  pub after : List Post
  pub refused_after : List (Option AccountFault)
  pub new : Holding
  pub ends : AreHandled setup (seat_numbers number setup) after refused_after between new
  pub lists_are : new.lists ≡ lists

-- each post of a worker that wasn't refused is handled after those before it
abbrev pub PostsAreHandled : Type 0
PostsAreHandled =
    (setup : Setup) (number : ℕ) (before : List Post) (post : Post) (after : List Post) (refusals : List (Option AccountFault)) (lists : List (List EntryData))
    → IsWorked setup number (before ++ post ∷ after) refusals lists → slice_index_or refusals (length before) None ≡ None
    → (old : Holding) × IsHandledAfter setup number before post lists old

-- what the entries of an account's list ask
abbrev pub asked_at : List (List EntryData) → ℕ → List Asked
asked_at lists place = map (λ entry. entry.asked) (slice_index_or lists place [])

-- no dialogue of a call began with these posts: none is an InitialDP of it from a subscriber
abbrev pub HasNoDialogue : Setup → List Post → ℕ → Type 0
HasNoDialogue setup posts call =
    All (λ post. (other : ℕ) (calling called : Number) → post.body ≡ Ssf call (InitialDp other calling called) → home_of calling setup ≡ None) posts

-- time of a call is asked for by the plan of a called number's route at a moment, as much as the service wants
pub record IsReserved (setup : Setup) (call : ℕ) (called : Number) (at : ℕ) (asked : List Asked) : Type 0 where
  pub route : Route
  pub routed : IsRoute setup.tariff (digits_of_number called) at route
  pub stands : Contains asked (Reserves call (rates_of route.plan) setup.service.wanted setup.service.least at)

-- the first InitialDP of a call from a subscriber to a number with a route has its Reserve, at the subscriber's account, or was refused
abbrev pub CallsAreReserved : Type 0
CallsAreReserved =
    (setup : Setup) (number : ℕ) (before : List Post) (post : Post) (lists : List (List EntryData)) (old : Holding) (call other place : ℕ) (calling called : Number)
    → IsHandledAfter setup number before post lists old → HasNoDialogue setup before call → post.body ≡ Ssf call (InitialDp other calling called)
    → home_of calling setup ≡ Some place → (HasNoRoute setup.tariff (digits_of_number called) → ⊥) → IsReserved setup call called post.at (asked_at lists place)

-- the dialogue of a call goes on with what the call was granted, by the account at a place
pub record IsRunning (h : Holding) (call place : ℕ) : Type 0 where
  pub terms : Conditions
  pub is : h.talks call ≡ Some (record { phase = Running terms; place = place })

-- of the reports that are settled in a list, a post has these: they are behind those that the list had before, all of them of the posts before it, and those behind them
-- are of the posts after it, in the order of the posts
pub record AreSettledFor (before after : List Post) (its : List Report) (old mine : List EntryData) : Type 0 where
  pub later : List Report
  pub is : settles_of mine ≡ settles_of old ++ (its ++ later)
  pub of_earlier : IsPart (settles_of old) (reports_of before)
  pub of_later : IsPart later (reports_of after)

-- a report of a call that goes on is settled just once, in its place and with the number of its post, at the call's account and at no other; or it was refused
abbrev pub ReportsAreSettled : Type 0
ReportsAreSettled =
    (setup : Setup) (number : ℕ) (before : List Post) (post : Post) (lists : List (List EntryData)) (old : Holding) (call place : ℕ) (active : Bool) (info : TimeInfo)
    → (handled : IsHandledAfter setup number before post lists old) → IsRunning old call place → post.body ≡ Ssf call (ChargingReport active info)
    → (at : ℕ)
    → AreSettledFor before handled.after (if at == place then (post.number, call, info) ∷ [] else []) (slice_index_or old.lists at []) (slice_index_or lists at [])

-- a message that ends a call which goes on: an event other than Answer, or Ended
abbrev pub ends_call : SsfMsg → Bool
ends_call (InitialDp other calling called) = false
ends_call (EventReport event.Answer leg mode) = false
ends_call (EventReport event leg mode) = true
ends_call (ChargingReport active info) = false
ends_call Ended = true

-- of the calls that are returned in a list, a post has these: they are behind those that the list had before, and no other Return there is of the call
pub record AreReturnedFor (call : ℕ) (its : List ℕ) (old mine : List EntryData) : Type 0 where
  pub later : List ℕ
  pub is : returns_of mine ≡ returns_of old ++ (its ++ later)
  pub none_earlier : All (λ other. other ≢ call) (returns_of old)
  pub none_later : All (λ other. other ≢ call) later

-- a call that goes on and is ended by a message is returned just once, in the message's place, at the call's account and at no other; or its Return was refused
abbrev pub CallsAreReturned : Type 0
CallsAreReturned =
    (setup : Setup) (number : ℕ) (before : List Post) (post : Post) (lists : List (List EntryData)) (old : Holding) (call place : ℕ) (message : SsfMsg)
    → IsHandledAfter setup number before post lists old → IsRunning old call place → post.body ≡ Ssf call message → ends_call message ≡ true
    → (at : ℕ) → AreReturnedFor call (if at == place then call ∷ [] else []) (slice_index_or old.lists at []) (slice_index_or lists at [])
