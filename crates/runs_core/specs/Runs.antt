-- What a run comes to: the books of its accounts, by what its driver has given, and what the driver has heard.
use Rattle.std.specs.Prelude.{◌≡◌, ◌<◌, ℕ, Bool, List, [], map, All}
use Rattle.account_core.specs.Answers.{IsLegal}
use Rattle.run_values.specs.Setups.{Setup}
use Rattle.run_values.specs.declared.post.Answer.{Answer}
use Rattle.run_values.specs.declared.post.Body.{Body}
use Rattle.runs_core.specs.Closing.{terms_shown}
use Rattle.runs_core.specs.Hearing.{AnswersEach, HearsRounds, IsAnsweredBy, all_heard}
use Rattle.runs_core.specs.Teams.{terms_of}
use Rattle.account_core.specs.Closed.{Closed}
use Rattle.account_core.specs.Refusals.{Knowing}

-- a run by so many workers in this setup has come to these books, where its driver has given these items and heard these answers
pub record IsRun (Stood : Closed → ℕ → Knowing) (setup : Setup) (workers : ℕ) (given : List (ℕ × Body)) (answers : List Answer) (books : List Closed) : Type 0 where
  -- there is one book for each account, in their order, with its opening credit and its limit
  pub opened : map (terms_shown workers) books ≡ terms_of setup.limit workers setup.accounts
  -- each history is legal from that credit
  pub legal : All (λ book. IsLegal book.opening book.until book.history) books
  -- and each entry is of one of the workers
  pub owned : All (λ book. All (λ entry. entry.seat < workers) book.history) books
  -- there is one answer for each item, in order
  pub each_heard : AnswersEach 0 given answers
  -- and each worker has answered its share: its entries and its answers are what handling that comes to
  pub answered : (worker : ℕ) → worker < workers → IsAnsweredBy Stood setup workers given answers books worker

-- a driver was served until it ended
pub record HasRun {D : Type 0} (given : D → List (ℕ × Body)) (ended : D → Bool) (hears : D → List Answer → D → Type 0) (Stood : Closed → ℕ → Knowing) (setup : Setup) (workers : ℕ) (old new : D) (books : List Closed) : Type 0 where
  -- round by round it has heard one answer for each item of the round before, up to the round in which it ended
  pub heard : List (List Answer)
  pub rounds : HearsRounds given ended hears [] old heard new
  -- and these are the books that the run has come to, by all that it has given and heard
  pub run : IsRun Stood setup workers (given new) (all_heard heard) books
