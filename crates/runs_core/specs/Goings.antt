-- A worker goes on: the posts that it handles, one after another, and its answers.
use Rattle.std.specs.Prelude.{◌≡◌, ℕ, List, map}
use Rattle.account_core.specs.Entries.{EntryData}
use Rattle.account_core.specs.Refusals.{Knowing, Refusal}
use Rattle.account_core.specs.Seats.{Reads}
use Rattle.runs_core.specs.Chains.{AreAnswered, at_first, seat_numbers}
use Rattle.runs_core.specs.Handled.{AnswerView}
use Rattle.runs_core.specs.Refusals.{RefusesAt, WasAt}
use Rattle.runs_core.specs.Workers.{IsReady, accounts_of, holding, number_of, seats_of, setup_of}
use Rattle.runs_core.specs.declared.worker.Worker.{Worker}
use Rattle.run_values.specs.Setups.{Setup}
use Rattle.run_values.specs.declared.post.Post.{Post}

-- posts were handled one after another, and these are the answers to them; what the seats knew they know still
pub record GoesOn {K S T : Type 0} (account_number : S → ℕ) (key : S → K) (read : Reads K T) (Was : T → Knowing) (old : Worker S T) (posts : List Post) (answers : List AnswerView) (new : Worker S T) : Type 0 where
  pub ready : IsReady account_number key read new
  pub same_setup : setup_of new ≡ setup_of old
  pub same_accounts : accounts_of new ≡ accounts_of old
  pub same_number : number_of new ≡ number_of old
  pub same_numbers : map read.number (seats_of new) ≡ map read.number (seats_of old)
  pub was : (place : ℕ) (mine : List EntryData) (refusal : Refusal) → WasAt Was (seats_of old) place mine refusal → WasAt Was (seats_of new) place mine refusal
  pub answered : AreAnswered (RefusesAt Was (seats_of new)) (setup_of old) (map read.number (seats_of old)) posts answers (holding read.mine old) (holding read.mine new)

-- the worker of a number has handled these posts, from the first on, and these are its answers
pub record HasAnswered {K S T : Type 0} (account_number : S → ℕ) (key : S → K) (read : Reads K T) (Was : T → Knowing) (setup : Setup) (accounts : List S) (number : ℕ) (posts : List Post) (answers : List AnswerView) (worker : Worker S T) : Type 0 where
  pub ready : IsReady account_number key read worker
  pub setup_is : setup_of worker ≡ setup
  pub accounts_are : accounts_of worker ≡ accounts
  pub number_is : number_of worker ≡ number
  pub numbers_are : map read.number (seats_of worker) ≡ seat_numbers number setup
  pub answered : AreAnswered (RefusesAt Was (seats_of worker)) setup (seat_numbers number setup) posts answers (at_first setup) (holding read.mine worker)
