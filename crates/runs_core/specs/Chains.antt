-- What the posts of a worker come to, answered one after another.
use Rattle.std.specs.Prelude.{◌≡◌, ℕ, Option, None, List, [], ◌∷◌, map}
use Rattle.account_core.specs.Entries.{EntryData}
use Rattle.account_core.specs.declared.fault.AccountFault.{AccountFault}
use Rattle.runs_core.specs.Handled.{AnswerView, Holding, IsRightlyHandled}
use Rattle.runs_core.specs.Talks.{Showing}
use Rattle.run_values.specs.Setups.{Setup}
use Rattle.runs_core.specs.Verdicts.{DialogueAt}
use Rattle.run_values.specs.declared.post.Post.{Post}

-- what a worker holds before its first post: no seat has an entry, and there is no dialogue
abbrev pub at_first : Setup → Holding
at_first setup = record { lists = map (λ account. []) setup.accounts; talks = λ call. None }

-- the numbers of a worker's seats: the worker's own, once for each account
abbrev pub seat_numbers : ℕ → Setup → List ℕ
seat_numbers number setup = map (λ account. number) setup.accounts

-- posts, in order, lead from what a worker holds to what it holds then, with these answers, one for each, and each ask that was refused was refused rightly
abbrev pub AreAnswered : (ℕ → Showing) → Setup → List ℕ → List Post → List AnswerView → Holding → Holding → Type 0
AreAnswered Shows setup numbers [] [] old new = old ≡ new
AreAnswered Shows setup numbers [] (answer ∷ answers) old new = ⊥
AreAnswered Shows setup numbers (post ∷ posts) [] old new = ⊥
AreAnswered Shows setup numbers (post ∷ posts) (answer ∷ answers) old new =
    (between : Holding) × IsRightlyHandled Shows setup numbers post old between answer × AreAnswered Shows setup numbers posts answers between new

-- which posts were refused, as their answers say
abbrev pub refusals_in : List AnswerView → List (Option AccountFault)
refusals_in answers = map (λ answer. answer.refused) answers

-- the lists of a worker's seats are what its posts made of empty ones, these are its answers, and each ask that was refused was refused rightly
pub record AnswersItsPosts (Shows : ℕ → Showing) (setup : Setup) (number : ℕ) (posts : List Post) (answers : List AnswerView) (lists : List (List EntryData)) : Type 0 where
  pub talks : ℕ → Option DialogueAt
  pub chain : AreAnswered Shows setup (seat_numbers number setup) posts answers (at_first setup) (record { lists = lists; talks = talks })
