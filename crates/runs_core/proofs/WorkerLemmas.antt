-- A worker goes on from post to post.
use Rattle.std.proofs.Common.{◌≡◌, ◌++◌, ℕ, None, List, [], ◌∷◌, map, refl, ap, sym, subst, ◌∙◌}
use Rattle.std.specs.Map.{keys_of}
use Rattle.std.proofs.lemmas.List.{append-nil, append_assoc, map-append}
use Rattle.account_core.specs.Refusals.{Knowing}
use Rattle.account_core.specs.Seats.{Reads}
use Rattle.runs_core.proofs.Chaining.{answered_still, more_after}
use Rattle.runs_core.specs.Chains.{AreAnswered, at_first, seat_numbers}
use Rattle.runs_core.specs.Handled.{AnswerView, answer_view}
use Rattle.runs_core.specs.Refusals.{RefusesAt, WasAt}
use Rattle.runs_core.specs.Workers.{IsReady, accounts_of, holding, number_of, seats_of, setup_of, talks_of}
use Rattle.runs_core.specs.declared.worker.Worker.{Worker}
use Rattle.run_values.specs.Setups.{Setup}
use Rattle.run_values.specs.declared.post.Answer.{Answer}
use Rattle.run_values.specs.declared.post.Post.{Post}
use Rattle.runs_core.proofs.Leaving.{fresh_worker, numbered_each}
use Rattle.runs_core.specs.Goings.{GoesOn, HasAnswered}
use Rattle.runs_core.specs.Teams.{IsFresh, IsLeft}

pub goes_none : {K S T : Type 0} (account_number : S → ℕ) (key : S → K) (read : Reads K T) (Was : T → Knowing) (worker : Worker S T)
    → IsReady account_number key read worker → GoesOn account_number key read Was worker [] [] worker
goes_none account_number key read Was worker ready = record {
  ready = ready;
  same_setup = refl;
  same_accounts = refl;
  same_number = refl;
  same_numbers = refl;
  was = λ place mine refusal known. known;
  answered = refl;
}

-- one after the other
pub goes_more : {K S T : Type 0} (account_number : S → ℕ) (key : S → K) (read : Reads K T) (Was : T → Knowing) (old : Worker S T) (posts later : List Post) (answers view : List AnswerView) (between new : Worker S T)
    → GoesOn account_number key read Was old posts answers between → GoesOn account_number key read Was between later view new
    → GoesOn account_number key read Was old (posts ++ later) (answers ++ view) new
goes_more account_number key read Was old posts later answers view between new first then_on =
    let Its : Setup → List ℕ → Type 0 = λ s ns. AreAnswered (RefusesAt Was (seats_of new)) s ns later view (holding read.mine between) (holding read.mine new) in
    record {
      ready = then_on.ready;
      same_setup = then_on.same_setup ∙ first.same_setup;
      same_accounts = then_on.same_accounts ∙ first.same_accounts;
      same_number = then_on.same_number ∙ first.same_number;
      same_numbers = then_on.same_numbers ∙ first.same_numbers;
      was = λ place mine refusal known. then_on.was place mine refusal (first.was place mine refusal known);
      answered = more_after (RefusesAt Was (seats_of new)) (setup_of old) (map read.number (seats_of old)) posts later answers view (holding read.mine old) (holding read.mine between) (holding read.mine new)
          (answered_still (WasAt Was (seats_of between)) (WasAt Was (seats_of new)) then_on.was (setup_of old) (map read.number (seats_of old)) posts answers (holding read.mine old) (holding read.mine between) first.answered)
          (subst (λ ns. Its (setup_of old) ns) first.same_numbers (subst (λ s. Its s (map read.number (seats_of between))) first.same_setup then_on.answered));
    }

-- from the first post on
pub answered_more : {K S T : Type 0} (account_number : S → ℕ) (key : S → K) (read : Reads K T) (Was : T → Knowing) (setup : Setup) (accounts : List S) (number : ℕ) (posts later : List Post) (answers view : List AnswerView) (old new : Worker S T)
    → HasAnswered account_number key read Was setup accounts number posts answers old → GoesOn account_number key read Was old later view new
    → HasAnswered account_number key read Was setup accounts number (posts ++ later) (answers ++ view) new
answered_more account_number key read Was setup accounts number posts later answers view old new first then_on =
    let Its : Setup → List ℕ → Type 0 = λ s ns. AreAnswered (RefusesAt Was (seats_of new)) s ns later view (holding read.mine old) (holding read.mine new) in
    record {
      ready = then_on.ready;
      setup_is = then_on.same_setup ∙ first.setup_is;
      accounts_are = then_on.same_accounts ∙ first.accounts_are;
      number_is = then_on.same_number ∙ first.number_is;
      numbers_are = then_on.same_numbers ∙ first.numbers_are;
      answered = more_after (RefusesAt Was (seats_of new)) setup (seat_numbers number setup) posts later answers view (at_first setup) (holding read.mine old) (holding read.mine new)
          (answered_still (WasAt Was (seats_of old)) (WasAt Was (seats_of new)) then_on.was setup (seat_numbers number setup) posts answers (at_first setup) (holding read.mine old) first.answered)
          (subst (λ ns. Its setup ns) first.numbers_are (subst (λ s. Its s (map read.number (seats_of old))) first.setup_is then_on.answered));
    }

-- a worker with fresh seats has handled nothing
pub begins : {K S T : Type 0} (account_number : S → ℕ) (key : S → K) (read : Reads K T) (Was : T → Knowing) (setup : Setup) (accounts : List S) (number : ℕ) (team : List T) (worker : Worker S T)
    → map account_number accounts ≡ keys_of setup.accounts → IsFresh read (map key accounts) number team
    → IsReady account_number key read worker → setup_of worker ≡ setup → accounts_of worker ≡ accounts → number_of worker ≡ number
    → seats_of worker ≡ team → ((call : ℕ) → talks_of worker call ≡ None)
    → HasAnswered account_number key read Was setup accounts number [] [] worker
begins {T = T} account_number key read Was setup accounts number team worker numbered fresh ready its_setup its_accounts its_number its_seats none =
    let starts = fresh_worker read key account_number setup accounts number team (talks_of worker) numbered fresh none in
    let From : List T → Type 0 = λ ts. record { lists = map read.mine ts; talks = talks_of worker } ≡ at_first setup in
    record {
      ready = ready;
      setup_is = its_setup;
      accounts_are = its_accounts;
      number_is = its_number;
      numbers_are = ap (map read.number) its_seats ∙ starts.0;
      answered = sym (subst From (sym its_seats) starts.1);
    }

-- what it leaves
pub left_by : {K S T : Type 0} (account_number : S → ℕ) (key : S → K) (read : Reads K T) (Was : T → Knowing) (setup : Setup) (accounts : List S) (number : ℕ) (posts : List Post) (answers : List AnswerView) (worker : Worker S T)
    → HasAnswered account_number key read Was setup accounts number posts answers worker
    → IsLeft read Was (map key accounts) setup number posts answers (seats_of worker)
left_by account_number key read Was setup accounts number posts answers worker has = record {
  of_accounts = has.ready.keys ∙ ap (map key) has.accounts_are;
  numbered = numbered_each read.number (number_of worker) number (seats_of worker) has.number_is has.ready.numbers;
  answered = record { talks = talks_of worker; chain = has.answered };
}

-- ---- posts of a list, one after the other

-- some of these posts were handled, and these are the answers; the rest is yet to come
pub record AreGoing {K S T : Type 0} (account_number : S → ℕ) (key : S → K) (read : Reads K T) (Was : T → Knowing) (old : Worker S T) (posts rest : List Post) (answers : List Answer) (now : Worker S T) : Type 0 where
  pub done : List Post
  pub split : done ++ rest ≡ posts
  pub goes : GoesOn account_number key read Was old done (map answer_view answers) now

pub none_going : {K S T : Type 0} (account_number : S → ℕ) (key : S → K) (read : Reads K T) (Was : T → Knowing) (old : Worker S T) (posts rest : List Post) (answers : List Answer) → rest ≡ posts → answers ≡ []
    → IsReady account_number key read old → AreGoing account_number key read Was old posts rest answers old
none_going account_number key read Was old posts rest answers whole none ready =
    record { done = []; split = whole; goes = rw (none) (goes_none account_number key read Was old ready) }

pub one_going : {K S T : Type 0} (account_number : S → ℕ) (key : S → K) (read : Reads K T) (Was : T → Knowing) (old : Worker S T) (posts : List Post) (post : Post) (rest : List Post) (answers more : List Answer) (answer : Answer) (now next : Worker S T)
    → AreGoing account_number key read Was old posts (post ∷ rest) answers now → GoesOn account_number key read Was now (post ∷ []) (answer_view answer ∷ []) next → more ≡ answers ++ answer ∷ []
    → AreGoing account_number key read Was old posts rest more next
one_going account_number key read Was old posts post rest answers more answer now next are then_on grown = record {
  done = are.done ++ post ∷ [];
  split = append_assoc are.done (post ∷ []) rest ∙ are.split;
  goes = rw (grown, map-append answer_view answers (answer ∷ [])) (goes_more account_number key read Was old are.done (post ∷ []) (map answer_view answers) (answer_view answer ∷ []) now next are.goes then_on);
}

pub all_going : {K S T : Type 0} (account_number : S → ℕ) (key : S → K) (read : Reads K T) (Was : T → Knowing) (old : Worker S T) (posts rest : List Post) (answers : List Answer) (now : Worker S T) → rest ≡ []
    → AreGoing account_number key read Was old posts rest answers now → GoesOn account_number key read Was old posts (map answer_view answers) now
all_going account_number key read Was old posts rest answers now none are =
    let all : are.done ≡ posts = sym (append-nil are.done) ∙ ap (λ r. are.done ++ r) (sym none) ∙ are.split in
    subst (λ ps. GoesOn account_number key read Was old ps (map answer_view answers) now) all are.goes
