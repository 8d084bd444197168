-- Workers, as their callers see them.
use Rattle.std.specs.Prelude.{◌≡◌, ◌<◌, ℕ, Option, List, All, IfSome, length, map, option_map}
use Rattle.std.specs.BTreeMap.{is_at}
use Rattle.std.specs.Map.{keys_of, lookup}
use Rattle.std.specs.Ordering.{nat_cmp}
use Rattle.account_core.specs.Entries.{EntryData}
use Rattle.account_core.specs.Seats.{Reads}
use Rattle.account_core.specs.Terms.{Terms}
use Rattle.dialogue_core.specs.Phases.{Phase, FirstAsk, Running, Settling, MoreAsk, Returning, Ending, Closed}
use Rattle.dialogue_core.specs.Views.{phase_of}
use Rattle.runs_core.specs.Handled.{Holding}
use Rattle.run_values.specs.Setups.{Setup}
use Rattle.runs_core.specs.Verdicts.{DialogueAt}
use Rattle.runs_core.specs.declared.worker.Talk.{Talk}
use Rattle.runs_core.specs.declared.worker.Worker.{Worker}

-- where a talk is
abbrev pub talk_standing : Talk → DialogueAt
talk_standing talk = record { phase = phase_of talk.dialogue; place = talk.place }

-- where the dialogues of a map are
abbrev pub standings_in : List (ℕ × Talk) → ℕ → Option DialogueAt
standings_in talks call = option_map talk_standing (lookup (is_at (nat_cmp call)) talks)

-- the number of an account, by what says its terms
abbrev pub number_by : {S : Type 0} → (S → Terms) → S → ℕ
number_by terms account = (terms account).number

-- the number of a worker
abbrev pub number_of : {S T : Type 0} → Worker S T → ℕ
number_of worker = worker.number

-- the setup of its run
abbrev pub setup_of : {S T : Type 0} → Worker S T → Setup
setup_of worker = worker.setup.now

-- the accounts of its run
abbrev pub accounts_of : {S T : Type 0} → Worker S T → List S
accounts_of worker = worker.accounts.now

-- its seats, one at each account
abbrev pub seats_of : {S T : Type 0} → Worker S T → List T
seats_of worker = worker.seats.items

-- where the dialogue of each call is
abbrev pub talks_of : {S T : Type 0} → Worker S T → ℕ → Option DialogueAt
talks_of worker = standings_in worker.talks

-- what a worker holds
abbrev pub holding : {S T : Type 0} → (T → List EntryData) → Worker S T → Holding
holding mine_of worker = record { lists = map mine_of (seats_of worker); talks = talks_of worker }

-- a dialogue is about a call
abbrev pub IsAbout : ℕ → Phase → Type 0
IsAbout call (FirstAsk t) = t.call ≡ call
IsAbout call (Running t) = t.call ≡ call
IsAbout call (Settling t active since) = t.call ≡ call
IsAbout call (MoreAsk t) = t.call ≡ call
IsAbout call (Returning after) = Unit {0}
IsAbout call Ending = Unit {0}
IsAbout call Closed = Unit {0}

-- a dialogue of a call: its account is one of so many, and it is about the call
pub record IsPlaced (count call : ℕ) (standing : DialogueAt) : Type 0 where
  pub placed : standing.place < count
  pub about : IsAbout call standing.phase

-- each dialogue has its account among so many, and is about its call
abbrev pub ArePlaced : ℕ → (ℕ → Option DialogueAt) → Type 0
ArePlaced count talks = (call : ℕ) → IfSome (talks call) (λ standing. IsPlaced count call standing)

-- a worker can handle a post: the accounts are those of the setup, each seat is of its account and has the worker's number, and each dialogue is about its call
-- and has its account among them
pub record IsReady {S T K : Type 0} (account_number : S → ℕ) (key : S → K) (read : Reads K T) (worker : Worker S T) : Type 0 where
  pub accounts : map account_number (accounts_of worker) ≡ keys_of (setup_of worker).accounts
  pub keys : map read.key (seats_of worker) ≡ map key (accounts_of worker)
  pub numbers : All (λ number. number ≡ number_of worker) (map read.number (seats_of worker))
  pub talks : ArePlaced (length (setup_of worker).accounts) (talks_of worker)
