-- A worker's own entries show each call as its dialogue is.
use Rattle.std.specs.Prelude.{◌≡◌, ◌≢◌, ℕ, true, false, Option, Some, None, List, [], reverse, slice_index_or}
use Rattle.account_core.specs.Entries.{EntryData}
use Rattle.account_core.specs.Known.{CallFacts, is_open, known}
use Rattle.account_core.specs.declared.fault.AccountFault.{AccountFault}
use Rattle.dialogue_core.specs.Phases.{Phase, FirstAsk, Running, Settling, MoreAsk, Returning, Ending, Closed}
use Rattle.run_values.specs.Setups.{Setup}
use Rattle.run_values.specs.declared.post.Post.{Post}
use Rattle.account_core.specs.Own.{of_call}
use Rattle.runs_core.specs.Chains.{at_first, seat_numbers}
use Rattle.held_calls.specs.Chains.{AreHandled}
use Rattle.runs_core.specs.Handled.{Holding}
use Rattle.runs_core.specs.Verdicts.{DialogueAt}

-- a worker's own entries of a call at the account at a place, in order
abbrev pub entries_at : ℕ → List (List EntryData) → ℕ → List EntryData
entries_at call lists place = of_call call (slice_index_or lists place [])

-- what a worker's own entries at the account at a place say of a call
abbrev pub facts_at : ℕ → List (List EntryData) → ℕ → CallFacts
facts_at call lists place = known call (reverse (slice_index_or lists place []))

-- what is said of a call in a phase of its dialogue: before the reply to its first Reserve it isn't returned; from its first grant until the reply to its Return it is open; and
-- while it goes on, and until its report is settled, no report has come since its last grant
abbrev pub IsShown : Phase → CallFacts → Type 0
IsShown (FirstAsk t) facts = facts.returned ≡ false
IsShown (Running t) facts = (is_open facts ≡ true) × (facts.awaits ≡ true)
IsShown (Settling t active since) facts = (is_open facts ≡ true) × (facts.awaits ≡ true)
IsShown (MoreAsk t) facts = is_open facts ≡ true
IsShown (Returning after) facts = is_open facts ≡ true
IsShown Ending facts = Unit {0}
IsShown Closed facts = Unit {0}

-- a call with a dialogue is as its dialogue is: all of its entries are at the account of the dialogue, and say of it what the phase does
pub record IsHeld (lists : List (List EntryData)) (call : ℕ) (standing : DialogueAt) : Type 0 where
  pub alone : (place : ℕ) → place ≢ standing.place → entries_at call lists place ≡ []
  pub shown : IsShown standing.phase (facts_at call lists standing.place)

-- and a call without a dialogue has no entry
abbrev pub IsHeldBy : List (List EntryData) → ℕ → Option DialogueAt → Type 0
IsHeldBy lists call None = (place : ℕ) → entries_at call lists place ≡ []
IsHeldBy lists call (Some standing) = IsHeld lists call standing

-- each call is so
abbrev pub AreHeld : Holding → Type 0
AreHeld held = (call : ℕ) → IsHeldBy held.lists call (held.talks call)

-- whatever posts a worker has handled, and whatever was refused, its entries show each call as its dialogue is
abbrev pub CallsAreHeld : Type 0
CallsAreHeld =
    (setup : Setup) (number : ℕ) (posts : List Post) (refusals : List (Option AccountFault)) (held : Holding)
    → AreHandled setup (seat_numbers number setup) posts refusals (at_first setup) held → AreHeld held
