-- What a worker enters of its calls, whatever its accounts refuse.
use Rattle.std.specs.Prelude.{◌≡◌, ◌==◌, ◌++◌, ℕ, Bool, true, Some, List, [], ◌∷◌, if◌then◌else◌, map, slice_index_or}
use Rattle.account_core.specs.Entries.{EntryData}
use Rattle.cap_values.specs.declared.message.SsfMsg.{SsfMsg}
use Rattle.cap_values.specs.declared.message.SsfMsg.TheVariants.{ChargingReport}
use Rattle.held_calls.specs.Going.{ended_at, taken_at}
use Rattle.held_calls.specs.Held.{entries_at}
use Rattle.run_values.specs.Setups.{Setup}
use Rattle.run_values.specs.declared.post.Body.TheVariants.{Ssf}
use Rattle.run_values.specs.declared.post.Post.{Post}
use Rattle.runs_core.specs.Shares.{item_of}
use Rattle.price_core.specs.declared.times.TimeInfo.{TimeInfo}
use Rattle.runs_core.specs.Chains.{AreAnswered, AnswersItsPosts, at_first, seat_numbers}
use Rattle.runs_core.specs.Handled.{AnswerView, Holding, IsRightlyHandled}
use Rattle.held_calls.specs.Workers.{IsRunning, ends_call}
use Rattle.held_calls.specs.Owed.{NeverRefusesOwed}
use Rattle.runs_core.specs.Served.{returns_of, settles_of}
use Rattle.runs_core.specs.Talks.{Showing}

-- a worker has answered posts, and then this one, and each ask that was refused was refused rightly
pub record IsAnsweredNext (Shows : ℕ → Showing) (setup : Setup) (number : ℕ) (before : List Post) (post : Post) (old new : Holding) : Type 0 where
  pub answers : List AnswerView
  pub begins : AreAnswered Shows setup (seat_numbers number setup) before answers (at_first setup) old
  pub answer : AnswerView
  pub handles : IsRightlyHandled Shows setup (seat_numbers number setup) post old new answer

-- a report of a call that goes on with what it was granted is settled at the call's account, with the number of its post, and nothing else is settled for it
abbrev pub TakenReportsAreSettled : (ℕ → Showing) → Type 0
TakenReportsAreSettled Shows =
    (setup : Setup) (number : ℕ) (before : List Post) (post : Post) (old new : Holding) (call place : ℕ) (active : Bool) (info : TimeInfo)
    → NeverRefusesOwed Shows call → IsAnsweredNext Shows setup number before post old new → IsRunning old call place → post.body ≡ Ssf call (ChargingReport active info)
    → (at : ℕ)
    → settles_of (slice_index_or new.lists at []) ≡ settles_of (slice_index_or old.lists at []) ++ (if at == place then (post.number, call, info) ∷ [] else [])

-- a call that goes on, and is ended by a message, is returned at its account, and no other call is returned for the message
abbrev pub EndedCallsAreReturned : (ℕ → Showing) → Type 0
EndedCallsAreReturned Shows =
    (setup : Setup) (number : ℕ) (before : List Post) (post : Post) (old new : Holding) (call place : ℕ) (message : SsfMsg)
    → NeverRefusesOwed Shows call → IsAnsweredNext Shows setup number before post old new → IsRunning old call place → post.body ≡ Ssf call message
    → ends_call message ≡ true
    → (at : ℕ) → returns_of (slice_index_or new.lists at []) ≡ returns_of (slice_index_or old.lists at []) ++ (if at == place then call ∷ [] else [])

-- ---- by what a worker was posted and what it answered

-- the Settles of a call by a worker at the account at a place are just the reports of the call that came while it went on there, in order, each with its post's number
abbrev pub WorkedReportsAreSettled : (ℕ → Showing) → Type 0
WorkedReportsAreSettled Shows =
    (setup : Setup) (number : ℕ) (posts : List Post) (answers : List AnswerView) (lists : List (List EntryData)) (call : ℕ) → NeverRefusesOwed Shows call
    → AnswersItsPosts Shows setup number posts answers lists
    → (place : ℕ) → settles_of (entries_at call lists place) ≡ taken_at setup call place (map item_of posts) answers

-- a call that went on at the account at a place when a message ended it has one Return there, and none at any other
abbrev pub WorkedCallsAreReturned : (ℕ → Showing) → Type 0
WorkedCallsAreReturned Shows =
    (setup : Setup) (number : ℕ) (posts : List Post) (answers : List AnswerView) (lists : List (List EntryData)) (call there : ℕ) → NeverRefusesOwed Shows call
    → AnswersItsPosts Shows setup number posts answers lists → ended_at setup call (map item_of posts) answers ≡ Some there
    → (place : ℕ) → returns_of (entries_at call lists place) ≡ (if place == there then call ∷ [] else [])
