-- What the driver of a run hears: the answers of the workers, in the order of its items.
use Rattle.std.specs.Prelude.{◌≡◌, ◌++◌, ◌<◌, ◌==◌, ℕ, Bool, true, false, Option, List, [], ◌∷◌, length, map, flat_map, if◌then◌else◌, slice_index_or}
use Rattle.account_core.specs.declared.fault.AccountFault.{AccountFault}
use Rattle.account_core.specs.Closed.{Closed}
use Rattle.account_core.specs.Refusals.{Knowing}
use Rattle.runs_core.specs.Chains.{AnswersItsPosts, refusals_in}
use Rattle.runs_core.specs.Handled.{answer_view}
use Rattle.run_values.specs.Setups.{Setup}
use Rattle.run_values.specs.declared.post.Answer.{Answer}
use Rattle.run_values.specs.declared.post.Body.{Body}
use Rattle.run_values.specs.declared.post.Post.{Post}
use Rattle.runs_core.specs.Closing.{lists_of, refuses_in}
use Rattle.runs_core.specs.Shares.{HaveHandled, item_of, numbered, share, worker_of}
use Rattle.runs_core.specs.Teams.{IsLeft}
use Rattle.account_core.specs.Seats.{Reads}

-- there is one answer for each item, in the order of the items, whose numbers go on from this one
abbrev pub AnswersEach : ℕ → List (ℕ × Body) → List Answer → Type 0
AnswersEach first given answers = map (λ answer. answer.number) answers ≡ map (λ item. item.number) (numbered first given)

-- the answers to the items that go to a worker, in order, where each answer is at the place of its item
abbrev pub answers_to : ℕ → ℕ → List (ℕ × Body) → List Answer → List Answer
answers_to workers worker [] answers = []
answers_to workers worker (item ∷ given) [] = []
answers_to workers worker (item ∷ given) (answer ∷ answers) =
    if worker_of workers item.1 == worker then answer ∷ answers_to workers worker given answers else answers_to workers worker given answers

-- there is one answer for each item, in order, and these are the answers of each worker
pub record AreAnswers (workers first : ℕ) (given : List (ℕ × Body)) (answers : List Answer) (lists : List (List Answer)) : Type 0 where
  pub numbers : AnswersEach first given answers
  pub count : length lists ≡ workers
  pub each : (worker : ℕ) → worker < workers → slice_index_or lists worker [] ≡ answers_to workers worker given answers

-- the answers of all rounds, one round's after the other's
abbrev pub all_heard : List (List Answer) → List Answer
all_heard heard = flat_map (λ answers. answers) heard

-- a driver that has heard these answers hears more in a round: with them it has heard one for each item that it has given, in order
pub record HearsMore {D : Type 0} (given : D → List (ℕ × Body)) (hears : D → List Answer → D → Type 0) (before_this : List Answer) (old : D) (answers : List Answer) (new : D) : Type 0 where
  pub each : AnswersEach 0 (given old) (before_this ++ answers)
  pub hears_them : hears old answers new

-- a driver hears answers round by round, after these, up to the round in which it ends
abbrev pub HearsRounds : {D : Type 0} → (D → List (ℕ × Body)) → (D → Bool) → (D → List Answer → D → Type 0) → List Answer → D → List (List Answer) → D → Type 0
HearsRounds given ended hears before_this old [] new = ⊥
HearsRounds given ended hears before_this old (answers ∷ []) new = HearsMore given hears before_this old answers new × (ended new ≡ true)
HearsRounds {D} given ended hears before_this old (answers ∷ next ∷ heard) new =
    (between : D) × HearsMore given hears before_this old answers between × (ended between ≡ false)
    × HearsRounds given ended hears (before_this ++ answers) between (next ∷ heard) new

-- a worker has answered its share of what was given: these are its posts, its entries in the books are what handling them, one after another, comes to, these
-- are its answers, and each ask that was refused was refused by the account of its book
pub record IsAnsweredBy (Stood : Closed → ℕ → Knowing) (setup : Setup) (workers : ℕ) (given : List (ℕ × Body)) (answers : List Answer) (books : List Closed) (worker : ℕ) : Type 0 where
  pub posts : List Post
  pub share : map item_of posts ≡ share workers given worker
  pub answered : AnswersItsPosts (refuses_in Stood books worker) setup worker posts (map answer_view (answers_to workers worker given answers)) (lists_of worker books)

-- the refusal of each post that a worker handled, or none, as the answers say
pub record HaveRefused (workers : ℕ) (given : List (ℕ × Body)) (answers : List Answer) (lists : List (List (Option AccountFault))) : Type 0 where
  pub count : length lists ≡ workers
  pub each : (worker : ℕ) → worker < workers → slice_index_or lists worker [] ≡ refusals_in (map answer_view (answers_to workers worker given answers))

-- ---- of what the workers have left

-- a driver was served until it ended, and its workers have left these teams of seats: each what handling its share comes to, with the answers that the driver
-- has heard round by round
pub record HasLeft {D K T : Type 0} (given : D → List (ℕ × Body)) (ended : D → Bool) (hears : D → List Answer → D → Type 0) (read : Reads K T) (Was : T → Knowing) (keys : List K) (setup : Setup) (workers : ℕ) (old new : D) (teams : List (List T)) : Type 0 where
  pub handled : List (List Post)
  pub shares : HaveHandled workers (given new) handled
  pub heard : List (List Answer)
  pub rounds : HearsRounds given ended hears [] old heard new
  pub lists : List (List Answer)
  pub are_answers : AreAnswers workers 0 (given new) (all_heard heard) lists
  pub count : length teams ≡ workers
  pub left : (worker : ℕ) → worker < workers
      → IsLeft read Was keys setup worker (slice_index_or handled worker []) (map answer_view (slice_index_or lists worker [])) (slice_index_or teams worker [])
