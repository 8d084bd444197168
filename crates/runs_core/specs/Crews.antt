-- The workers of a run: the main thread has the first, and a link to each other.
use Rattle.std.specs.Prelude.{◌≡◌, ◌+◌, ◌++◌, ℕ, Bool, List, [], ◌∷◌, length, map}
use Rattle.runs_core.specs.Handled.{answer_view}
use Rattle.run_values.specs.Setups.{Setup}
use Rattle.run_values.specs.declared.post.Answer.{Answer}
use Rattle.run_values.specs.declared.post.Body.{Body}
use Rattle.run_values.specs.declared.post.Post.{Post}
use Rattle.runs_core.specs.Goings.{GoesOn, HasAnswered}
use Rattle.runs_core.specs.Hearing.{AreAnswers, HearsRounds, all_heard}
use Rattle.runs_core.specs.Sending.{heard_by, sent_by}
use Rattle.runs_core.specs.Shares.{AreShares, HaveHandled}
use Rattle.account_core.specs.Refusals.{Knowing}
use Rattle.account_core.specs.Seats.{Reads}
use Rattle.runs_core.specs.declared.crew.Crew.{Crew}

-- each list goes on with the list at its place
abbrev pub joined_lists : {X : Type 0} → List (List X) → List (List X) → List (List X)
joined_lists [] more = []
joined_lists (xs ∷ lists) [] = xs ∷ lists
joined_lists (xs ∷ lists) (ys ∷ more) = (xs ++ ys) ∷ joined_lists lists more

-- how many workers there are
abbrev pub count_of : {S G T : Type 0} → Crew S G T → ℕ
count_of crew = length crew.links.items + 1

-- each worker of a crew has got its share of what was given, the first has handled its share, and these are the answers that have come from all
pub record HasServed {K S G T : Type 0} (account_number : S → ℕ) (key : S → K) (read : Reads K T) (Was : T → Knowing) (setup : Setup) (accounts : List S) (given : List (ℕ × Body)) (answers : List Answer) (crew : Crew S G T) : Type 0 where
  pub own : List Post
  pub shares : HaveHandled (count_of crew) given (own ∷ map sent_by crew.links.items)
  pub mine : List Answer
  pub first : HasAnswered account_number key read Was setup accounts 0 own (map answer_view mine) crew.worker
  pub are_answers : AreAnswers (count_of crew) 0 given answers (mine ∷ map heard_by crew.links.items)

-- a round whose items follow so many others: each worker has got its share of them, the first has handled its share, and these are the answers
-- that have come from all
pub record IsServedRound {K S G T : Type 0} (account_number : S → ℕ) (key : S → K) (read : Reads K T) (Was : T → Knowing) (first : ℕ) (added : List (ℕ × Body)) (answers : List Answer) (old new : Crew S G T) : Type 0 where
  pub own : List Post
  pub others : List (List Post)
  pub are_shares : AreShares (count_of old) first added (own ∷ others)
  pub sent : map sent_by new.links.items ≡ joined_lists (map sent_by old.links.items) others
  pub mine : List Answer
  pub goes_on : GoesOn account_number key read Was old.worker own (map answer_view mine) new.worker
  pub replies : List (List Answer)
  pub heard : map heard_by new.links.items ≡ joined_lists (map heard_by old.links.items) replies
  pub are_answers : AreAnswers (count_of old) first added answers (mine ∷ replies)
  pub count : count_of new ≡ count_of old

-- a driver was served by a crew until it ended: round by round it has heard all the answers that have come
pub record HasPlayed {D K S G T : Type 0} (given : D → List (ℕ × Body)) (ended : D → Bool) (hears : D → List Answer → D → Type 0) (account_number : S → ℕ) (key : S → K) (read : Reads K T) (Was : T → Knowing) (setup : Setup) (accounts : List S) (old new : D) (crew : Crew S G T) : Type 0 where
  pub heard : List (List Answer)
  pub rounds : HearsRounds given ended hears [] old heard new
  pub served : HasServed account_number key read Was setup accounts (given new) (all_heard heard) crew
