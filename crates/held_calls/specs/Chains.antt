-- What the posts of a worker come to, handled one after another.
use Rattle.std.specs.Prelude.{◌≡◌, ℕ, Option, List, [], ◌∷◌}
use Rattle.account_core.specs.Entries.{EntryData}
use Rattle.account_core.specs.declared.fault.AccountFault.{AccountFault}
use Rattle.runs_core.specs.Handled.{AnswerView, Holding, IsHandled}
use Rattle.run_values.specs.Setups.{Setup}
use Rattle.runs_core.specs.Verdicts.{DialogueAt}
use Rattle.run_values.specs.declared.post.Post.{Post}
use Rattle.runs_core.specs.Chains.{at_first, seat_numbers}

-- a post is handled, and this is the last fault that an ask for it got, or none, where every ask for it was entered
pub record IsHandledOnce (setup : Setup) (numbers : List ℕ) (post : Post) (refusal : Option AccountFault) (old new : Holding) : Type 0 where
  pub answer : AnswerView
  pub handled : IsHandled setup numbers post old new answer
  pub refused : answer.refused ≡ refusal

-- posts, in order, lead from what a worker holds to what it holds then, with a refusal or none for each
abbrev pub AreHandled : Setup → List ℕ → List Post → List (Option AccountFault) → Holding → Holding → Type 0
AreHandled setup numbers [] [] old new = old ≡ new
AreHandled setup numbers [] (refusal ∷ refusals) old new = ⊥
AreHandled setup numbers (post ∷ posts) [] old new = ⊥
AreHandled setup numbers (post ∷ posts) (refusal ∷ refusals) old new =
    (between : Holding) × IsHandledOnce setup numbers post refusal old between × AreHandled setup numbers posts refusals between new

-- the lists of a worker's seats, in the ascending order of the accounts, are what its posts made of empty ones, and these of the posts were refused
pub record IsWorked (setup : Setup) (number : ℕ) (posts : List Post) (refusals : List (Option AccountFault)) (lists : List (List EntryData)) : Type 0 where
  pub talks : ℕ → Option DialogueAt
  pub chain : AreHandled setup (seat_numbers number setup) posts refusals (at_first setup) (record { lists = lists; talks = talks })
