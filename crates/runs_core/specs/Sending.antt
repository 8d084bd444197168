-- The links of the workers of a run: what was sent by them, and what their threads promise.
use Rattle.std.specs.Prelude.{◌≡◌, ◌+◌, ℕ, List, [], ◌∷◌, map}
use Rattle.runs_core.specs.Mails.{items_in}
use Rattle.account_core.specs.Refusals.{Knowing}
use Rattle.account_core.specs.Seats.{Reads}
use Rattle.runs_core.specs.Teams.{IsLeft}
use Rattle.runs_core.specs.declared.worker_link.WorkerLink.{WorkerLink}
use Rattle.runs_core.specs.declared.promise.WorkerPromise.{WorkerPromise}
use Rattle.runs_core.specs.Ends.{sent, taken}
use Rattle.run_values.specs.Setups.{Setup}
use Rattle.runs_core.specs.Handled.{answer_view}
use Rattle.run_values.specs.declared.post.Answer.{Answer}
use Rattle.run_values.specs.declared.post.Post.{Post}

-- the posts that were sent by a link
abbrev pub sent_by : {S G T : Type 0} → WorkerLink S G T → List Post
sent_by link = items_in (sent link.outbox)

-- the answers that have come by a link
abbrev pub heard_by : {S G T : Type 0} → WorkerLink S G T → List Answer
heard_by link = items_in (taken link.inbox)

-- what the threads of the workers promise
abbrev pub promises_of : {S G T : Type 0} → List (WorkerLink S G T) → List (WorkerPromise S G T)
promises_of links = map (λ link. link.child.promise) links

-- the promise of the worker of this number, of one run
pub record IsPromised {S G T : Type 0} (setup : Setup) (accounts : List S) (number : ℕ) (promise : WorkerPromise S G T) : Type 0 where
  pub setup_is : promise.setup.now ≡ setup
  pub accounts_are : promise.accounts.now ≡ accounts
  pub number_is : promise.number ≡ number

-- the promises of the workers, from this number on
abbrev pub ArePromised : {S G T : Type 0} → Setup → List S → ℕ → List (WorkerPromise S G T) → Type 0
ArePromised setup accounts number [] = Unit {0}
ArePromised setup accounts number (promise ∷ promises) = IsPromised setup accounts number promise × ArePromised setup accounts (number + 1) promises

-- a worker has left what its thread promised: what handling the posts sent by its link comes to, with the answers that have come by it
abbrev pub IsLeftBy : {K S G T : Type 0} → Reads K T → (S → K) → (T → Knowing) → WorkerLink S G T → List T → Type 0
IsLeftBy read key Was link team =
    IsLeft read Was (map key link.child.promise.accounts.now) link.child.promise.setup.now link.child.promise.number (sent_by link) (map answer_view (heard_by link)) team

-- what each worker has left is what it promised
abbrev pub AreLeftBy : {K S G T : Type 0} → Reads K T → (S → K) → (T → Knowing) → List (WorkerLink S G T) → List (List T) → Type 0
AreLeftBy read key Was [] [] = Unit {0}
AreLeftBy read key Was [] (team ∷ teams) = ⊥
AreLeftBy read key Was (link ∷ links) [] = ⊥
AreLeftBy read key Was (link ∷ links) (team ∷ teams) = IsLeftBy read key Was link team × AreLeftBy read key Was links teams
