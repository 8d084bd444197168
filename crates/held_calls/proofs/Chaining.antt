-- Posts are handled one after another, and what a worker holds stays in order.
use Rattle.std.proofs.Common.{◌++◌, ℕ, Option, List, [], ◌∷◌, map, refl, subst, append_assoc, append-nil}
use Rattle.std.specs.Map.{keys_of}
use Rattle.std.proofs.lemmas.List.Elements.{All-nil}
use Rattle.account_core.specs.Entries.{EntryData}
use Rattle.account_core.specs.declared.fault.AccountFault.{AccountFault}
use Rattle.held_calls.proofs.Sound.{sound_after}
use Rattle.runs_core.specs.Chains.{AreAnswered, AnswersItsPosts, at_first, refusals_in, seat_numbers}
use Rattle.held_calls.specs.Chains.{AreHandled, IsHandledOnce, IsWorked}
use Rattle.runs_core.specs.Handled.{AnswerView, Holding}
use Rattle.held_calls.specs.Workers.{EntriesComeFromPosts}
use Rattle.runs_core.specs.Served.{AreServed}
use Rattle.runs_core.specs.Talks.{Showing}
use Rattle.held_calls.specs.Sound.{IsSoundHolding}
use Rattle.run_values.specs.Setups.{Setup}
use Rattle.run_values.specs.declared.directory.OpeningCredit.{OpeningCredit}
use Rattle.run_values.specs.declared.post.Post.{Post}

-- ---- posts that were answered were handled, and those were refused of which the answers say it

pub handled_so : (Shows : ℕ → Showing) (setup : Setup) (numbers : List ℕ) (posts : List Post) (answers : List AnswerView) (old new : Holding) → AreAnswered Shows setup numbers posts answers old new
    → AreHandled setup numbers posts (refusals_in answers) old new
handled_so Shows setup numbers [] [] old new are = are
handled_so Shows setup numbers [] (t ∷ answers) old new are = absurd are
handled_so Shows setup numbers (p ∷ posts) [] old new are = absurd are
handled_so Shows setup numbers (p ∷ posts) (t ∷ answers) old new are =
    (are.0, record { answer = t; handled = are.1.handled; refused = refl }, handled_so Shows setup numbers posts answers are.0 new are.2)

pub worked_so : (Shows : ℕ → Showing) (setup : Setup) (number : ℕ) (posts : List Post) (answers : List AnswerView) (lists : List (List EntryData)) → AnswersItsPosts Shows setup number posts answers lists
    → IsWorked setup number posts (refusals_in answers) lists
worked_so Shows setup number posts answers lists is = record { talks = is.talks; chain = handled_so Shows setup _ posts answers _ _ is.chain }

-- ---- what a worker holds is in order, from the first post on

none_served : (accounts : List (ℕ × OpeningCredit)) → AreServed (keys_of accounts) [] (map (λ account. []) accounts)
none_served [] = tt
none_served (account ∷ accounts) = (record { settles = tt; credits = tt; calls = All-nil _ }, none_served accounts)

pub first_sound : (setup : Setup) → IsSoundHolding (keys_of setup.accounts) [] (at_first setup)
first_sound setup = record { served = none_served setup.accounts; talks = λ call. tt }

pub once_sound : (setup : Setup) (numbers : List ℕ) (done : List Post) (post : Post) (refusal : Option AccountFault) (old new : Holding) → IsSoundHolding (keys_of setup.accounts) done old
    → IsHandledOnce setup numbers post refusal old new → IsSoundHolding (keys_of setup.accounts) (done ++ post ∷ []) new
once_sound setup numbers done post refusal old new sound is = sound_after setup numbers done post old new is.answer sound is.handled.done

pub all_sound : (setup : Setup) (numbers : List ℕ) (done posts : List Post) (refusals : List (Option AccountFault)) (old new : Holding) → IsSoundHolding (keys_of setup.accounts) done old
    → AreHandled setup numbers posts refusals old new → IsSoundHolding (keys_of setup.accounts) (done ++ posts) new
all_sound setup numbers done [] [] old new sound are = rw (append-nil done) (subst (λ h. IsSoundHolding (keys_of setup.accounts) done h) are sound)
all_sound setup numbers done [] (refusal ∷ refusals) old new sound are = absurd are
all_sound setup numbers done (post ∷ posts) [] old new sound are = absurd are
all_sound setup numbers done (post ∷ posts) (refusal ∷ refusals) old new sound are =
    let P : List Post → Type 0 = λ all. IsSoundHolding (keys_of setup.accounts) all new in
    subst P (append_assoc done (post ∷ []) posts) (all_sound setup numbers (done ++ post ∷ []) posts refusals are.0 new (once_sound setup numbers done post refusal old are.0 sound are.1) are.2)

pub come_from_posts : EntriesComeFromPosts
come_from_posts setup number posts refusals lists is =
    (all_sound setup (seat_numbers number setup) [] posts refusals (at_first setup) (record { lists = lists; talks = is.talks }) (first_sound setup) is.chain).served
