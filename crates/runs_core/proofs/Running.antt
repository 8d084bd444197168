-- What a run comes to, from what its workers have left.
use Rattle.std.proofs.Common.{◌≡◌, ◌<◌, ◌∙◌, ℕ, Bool, List, [], map, ap, sym, subst, arith}
use Rattle.std.specs.Global.{Vec}
use Rattle.std.specs.Prelude.{All, Err, IfOk, Ok, Result, slice_index_or}
use Rattle.account_core.specs.Answers.{IsLegal}
use Rattle.account_core.specs.Entries.{EntryData}
use Rattle.account_core.specs.Closed.{Closed}
use Rattle.account_core.specs.Refusals.{Knowing}
use Rattle.account_core.specs.Seats.{Reads}
use Rattle.account_core.specs.Terms.{Terms}
use Rattle.runs_core.proofs.Chaining.{answered_still}
use Rattle.runs_core.specs.Chains.{AnswersItsPosts, at_first, seat_numbers}
use Rattle.runs_core.specs.Handled.{AnswerView, answer_view}
use Rattle.runs_core.specs.Refusals.{WasAt}
use Rattle.run_values.specs.Setups.{Setup}
use Rattle.run_values.specs.declared.post.Answer.{Answer}
use Rattle.run_values.specs.declared.post.Body.{Body}
use Rattle.run_values.specs.declared.post.Post.{Post}
use Rattle.runs_core.specs.Closing.{IsInBooks, StoodAt, lists_of, refuses_in, terms_shown}
use Rattle.runs_core.specs.Hearing.{HasLeft}
use Rattle.runs_core.specs.Runs.{HasRun}
use Rattle.runs_core.specs.Teams.{IsLeft, terms_of}
use Rattle.run_values.specs.declared.run_fault.RunFault.{RunFault}

-- what a worker has left, as the books show it
shown_by : {K T : Type 0} (read : Reads K T) (Was : T → Knowing) (Stood : Closed → ℕ → Knowing) (keys : List K) (setup : Setup) (worker : ℕ) (posts : List Post) (answers : List AnswerView) (team : List T) (books : List Closed)
    → IsLeft read Was keys setup worker posts answers team → IsInBooks read Was Stood books worker team → AnswersItsPosts (refuses_in Stood books worker) setup worker posts answers (lists_of worker books)
shown_by read Was Stood keys setup worker posts answers team books left shown =
    let Its : List (List EntryData) → Type 0 = λ lists. AnswersItsPosts (refuses_in Stood books worker) setup worker posts answers lists in
    subst Its (sym shown.lists) (record {
      talks = left.answered.talks;
      chain = answered_still (WasAt Was team) (StoodAt Stood books worker) shown.stood setup (seat_numbers worker setup) posts answers (at_first setup) _ left.answered.chain;
    })

-- where there are books
pub run_so : {D K T : Type 0} (given : D → List (ℕ × Body)) (ended : D → Bool) (hears : D → List Answer → D → Type 0) (read : Reads K T) (Was : T → Knowing) (Stood : Closed → ℕ → Knowing) (keys : List K) (setup : Setup) (workers many : ℕ) (old new : D) (teams : List (List T)) (terms : List Terms) (books : List Closed)
    → workers ≡ many → HasLeft given ended hears read Was keys setup workers old new teams → terms ≡ terms_of setup.limit workers setup.accounts
    → map (terms_shown many) books ≡ terms → All (λ book. IsLegal book.opening book.until book.history) books → All (λ book. All (λ entry. entry.seat < many) book.history) books
    → ((worker : ℕ) → worker < many → IsInBooks read Was Stood books worker (slice_index_or teams worker []))
    → HasRun given ended hears Stood setup workers old new books
run_so given ended hears read Was Stood keys setup workers many old new teams terms books all_there has opened shown legal owned in_them = record {
  heard = has.heard;
  rounds = has.rounds;
  run = record {
    opened = ap (λ (n : ℕ). map (terms_shown n) books) all_there ∙ (shown ∙ opened);
    legal = legal;
    owned = rw (all_there) owned;
    each_heard = has.are_answers.numbers;
    answered = λ worker below.
        let posts = slice_index_or has.handled worker [] in
        let Its : List Answer → Type 0 = λ answer. AnswersItsPosts (refuses_in Stood books worker) setup worker posts (map answer_view answer) (lists_of worker books) in
        record {
          posts = posts;
          share = has.shares.each worker below;
          answered = subst Its (has.are_answers.each worker below)
              (shown_by read Was Stood keys setup worker posts (map answer_view (slice_index_or has.lists worker [])) (slice_index_or teams worker []) books (has.left worker below) (in_them worker (omega (arith, below, all_there))));
        };
  };
}

-- and so of a run that may have none
pub run_if : {D K T : Type 0} (given : D → List (ℕ × Body)) (ended : D → Bool) (hears : D → List Answer → D → Type 0) (read : Reads K T) (Was : T → Knowing) (Stood : Closed → ℕ → Knowing) (keys : List K) (setup : Setup) (workers many : ℕ) (old new : D) (teams : List (List T)) (terms : List Terms) (result : Result (Vec Closed) RunFault)
    → workers ≡ many → HasLeft given ended hears read Was keys setup workers old new teams → terms ≡ terms_of setup.limit workers setup.accounts
    → IfOk result (λ books. map (terms_shown many) books.items ≡ terms) → IfOk result (λ books. All (λ book. IsLegal book.opening book.until book.history) books.items)
    → IfOk result (λ books. All (λ book. All (λ entry. entry.seat < many) book.history) books.items)
    → IfOk result (λ books. (worker : ℕ) → worker < many → IsInBooks read Was Stood books.items worker (slice_index_or teams worker []))
    → IfOk result (λ books. HasRun given ended hears Stood setup workers old new books.items)
run_if given ended hears read Was Stood keys setup workers many old new teams terms (Err fault) all_there has opened shown legal owned in_them = tt
run_if given ended hears read Was Stood keys setup workers many old new teams terms (Ok books) all_there has opened shown legal owned in_them =
    run_so given ended hears read Was Stood keys setup workers many old new teams terms books.items all_there has opened shown legal owned in_them
