-- A run whose books can be read back.
use Rattle.std.specs.Prelude.{◌≡◌, ℕ, true, List, All}
use Rattle.book_texts.specs.Typed.{IsTyped}
use Rattle.run_laws.specs.Timely.{AreTimely}
use Rattle.run_values.specs.Openings.{HasAccounts}
use Rattle.run_values.specs.Setups.{Setup}
use Rattle.run_values.specs.declared.post.Answer.{Answer}
use Rattle.run_values.specs.declared.post.Body.{Body}
use Rattle.runs_core.specs.Runs.{IsRun}
use Rattle.runs_core.specs.Teams.{are_workers}
use Rattle.account_core.specs.Closed.{Closed}
use Rattle.account_core.specs.Refusals.{Knowing}

-- a run over such accounts, to which nothing was given that has no range
pub record IsTimelyRun (Stood : Closed → ℕ → Knowing) (setup : Setup) (workers : ℕ) (given : List (ℕ × Body)) (answers : List Answer) (books : List Closed) : Type 0 where
  pub may_be : are_workers workers ≡ true
  pub run : IsRun Stood setup workers given answers books
  pub accounts : HasAccounts setup.accounts
  pub timely : AreTimely given

-- the books of a run whose table can be read back, where it has room for its rows: each number in it has its range
pub record IsRecorded (Stood : Closed → ℕ → Knowing) (setup : Setup) (workers : ℕ) (given : List (ℕ × Body)) (books : List Closed) : Type 0 where
  -- these are the books that a run has come to
  pub may_be : are_workers workers ≡ true
  pub answers : List Answer
  pub run : IsRun Stood setup workers given answers books
  pub accounts : HasAccounts setup.accounts
  pub timely : AreTimely given
  pub typed : All IsTyped books
