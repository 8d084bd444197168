-- What the books of a run have of a call, by what its driver has given and heard.
use Rattle.std.specs.Prelude.{◌≡◌, ◌==◌, ◌<◌, ◌≤◌, ℕ, Some, List, [], ◌∷◌, if◌then◌else◌, map}
use Rattle.held_calls.specs.Going.{ended_at, left_at, taken_at}
use Rattle.run_values.specs.Setups.{Setup}
use Rattle.run_values.specs.declared.post.Answer.{Answer}
use Rattle.run_values.specs.declared.post.Body.{Body}
use Rattle.held_calls.specs.Entered.{IsBookAt}
use Rattle.runs_core.specs.Runs.{IsRun}
use Rattle.runs_core.specs.Shares.{numbered}
use Rattle.account_core.specs.Closed.{Closed}
use Rattle.account_core.specs.Own.{of_call}
use Rattle.turn_account.specs.Seen.{StoodIn}
use Rattle.price_core.specs.declared.plan.TheConstants.{MAX_MONEY}
use Rattle.runs_core.specs.Handled.{answer_view}
use Rattle.runs_core.specs.Served.{returns_of, settles_of}

-- in a run over accounts by turns, the Settles of a call in the book of an account are just the reports of the call that came while it went on there, in order, each with the
-- number of its item
abbrev pub RunReportsAreSettled : Type 0
RunReportsAreSettled =
    (setup : Setup) (workers : ℕ) (given : List (ℕ × Body)) (answers : List Answer) (books : List Closed) (account place : ℕ) (book : Closed) (call : ℕ)
    → 0 < workers → IsRun StoodIn setup workers given answers books → IsBookAt setup books account place book
    → settles_of (of_call call book.history) ≡ taken_at setup call place (numbered 0 given) (map answer_view answers)

-- and a call that went on at the account at a place when a message ended it has one Return in the book of that account, and none in any other
abbrev pub RunCallsAreReturned : Type 0
RunCallsAreReturned =
    (setup : Setup) (workers : ℕ) (given : List (ℕ × Body)) (answers : List Answer) (books : List Closed) (account place : ℕ) (book : Closed) (call there : ℕ)
    → 0 < workers → IsRun StoodIn setup workers given answers books → IsBookAt setup books account place book
    → ended_at setup call (numbered 0 given) (map answer_view answers) ≡ Some there
    → returns_of (of_call call book.history) ≡ (if place == there then call ∷ [] else [])

-- and of a call the book of an account that was opened with money has one Return where the call went on there and goes on no more, whether a message ended it or a report that wasn't
-- paid for, and none else
abbrev pub RunCallsThatEndAreReturned : Type 0
RunCallsThatEndAreReturned =
    (setup : Setup) (workers : ℕ) (given : List (ℕ × Body)) (answers : List Answer) (books : List Closed) (account place : ℕ) (book : Closed) (call : ℕ)
    → 0 < workers → IsRun StoodIn setup workers given answers books → IsBookAt setup books account place book → book.opening ≤ MAX_MONEY
    → returns_of (of_call call book.history) ≡ left_at setup call place (numbered 0 given) (map answer_view answers)
