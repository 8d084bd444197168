-- What the entries of the books of a run have to do with what its workers handled.
use Rattle.std.specs.Prelude.{◌≡◌, ◌<◌, ◌%◌, ℕ, Some, List, length, map, All, slice_index_or}
use Rattle.runs_core.specs.Closing.{lists_of, refuses_in}
use Rattle.runs_core.specs.Hearing.{IsAnsweredBy, answers_to}
use Rattle.runs_core.specs.Runs.{IsRun}
use Rattle.account_core.specs.Closed.{Closed}
use Rattle.account_core.specs.Own.{own}
use Rattle.account_core.specs.Refusals.{Knowing}
use Rattle.turn_account.specs.Seen.{IsBySeat, StoodIn}
use Rattle.runs_core.specs.Chains.{refusals_in}
use Rattle.held_calls.specs.Chains.{IsWorked}
use Rattle.runs_core.specs.Handled.{answer_view}
use Rattle.held_calls.specs.Workers.{IsOnTerms, accepted_of}
use Rattle.held_calls.specs.Owed.{NeverRefusesOwed}
use Rattle.runs_core.specs.Served.{IsServed, credits_of}
use Rattle.run_values.specs.Setups.{Setup, place_of}
use Rattle.run_values.specs.declared.post.Answer.{Answer}
use Rattle.run_values.specs.declared.post.Body.{Body}

-- the book of an account, at its place among the books
pub record IsBookAt (setup : Setup) (books : List Closed) (account place : ℕ) (book : Closed) : Type 0 where
  pub place_is : place_of account setup ≡ Some place
  pub within : place < length books
  pub book_is : slice_index_or books place book ≡ book

-- a worker's entries in the books are what handling its posts, one after another, comes to, and those of the posts were refused of which the answers say it
abbrev pub RunListsAreWorked : (Closed → ℕ → Knowing) → Type 0
RunListsAreWorked Stood =
    (setup : Setup) (workers : ℕ) (given : List (ℕ × Body)) (answers : List Answer) (books : List Closed) (worker : ℕ) → (is : IsAnsweredBy Stood setup workers given answers books worker)
    → IsWorked setup worker is.posts (refusals_in (map answer_view (answers_to workers worker given answers))) (lists_of worker books)

-- in the book of an account, each entry of a worker comes from what the worker has handled
abbrev pub RunEntriesAreServed : (Closed → ℕ → Knowing) → Type 0
RunEntriesAreServed Stood =
    (setup : Setup) (workers : ℕ) (given : List (ℕ × Body)) (answers : List Answer) (books : List Closed) (worker account place : ℕ) (book : Closed)
    → (is : IsAnsweredBy Stood setup workers given answers books worker) → IsBookAt setup books account place book
    → IsServed account is.posts (own worker book.history)

-- the Credits of a worker there are just the recharges of that account which the worker handled and which weren't refused, in order
abbrev pub RechargesAreInTheBooks : (Closed → ℕ → Knowing) → Type 0
RechargesAreInTheBooks Stood =
    (setup : Setup) (workers : ℕ) (given : List (ℕ × Body)) (answers : List Answer) (books : List Closed) (worker account place : ℕ) (book : Closed)
    → (is : IsAnsweredBy Stood setup workers given answers books worker) → IsBookAt setup books account place book
    → credits_of (own worker book.history) ≡ accepted_of account is.posts (refusals_in (map answer_view (answers_to workers worker given answers)))

-- and each Reserve of a worker is of a call of a subscriber of that account, on the terms that the call began on
abbrev pub ReservesAreInTheBooks : (Closed → ℕ → Knowing) → Type 0
ReservesAreInTheBooks Stood =
    (setup : Setup) (workers : ℕ) (given : List (ℕ × Body)) (answers : List Answer) (books : List Closed) (worker account place : ℕ) (book : Closed)
    → (is : IsAnsweredBy Stood setup workers given answers books worker) → IsBookAt setup books account place book
    → All (λ entry. IsOnTerms setup place is.posts entry.asked) (own worker book.history)

-- in the books of a run each entry of a call is by one worker, that of the call's remainder
abbrev pub RunCallsAreOfOneWorker : (Closed → ℕ → Knowing) → Type 0
RunCallsAreOfOneWorker Stood =
    (setup : Setup) (workers : ℕ) (given : List (ℕ × Body)) (answers : List Answer) (books : List Closed) → IsRun Stood setup workers given answers books
    → All (λ book. (call : ℕ) → IsBySeat book (call % workers) call) books

-- in a run over accounts by turns, what a call is owed by its worker's own entries is never refused
abbrev pub RunOwedIsNeverRefused : Type 0
RunOwedIsNeverRefused =
    (setup : Setup) (workers : ℕ) (given : List (ℕ × Body)) (answers : List Answer) (books : List Closed) (call : ℕ) → IsRun StoodIn setup workers given answers books
    → NeverRefusesOwed (refuses_in StoodIn books (call % workers)) call
