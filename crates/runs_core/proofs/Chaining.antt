-- Posts are answered one after another.
use Rattle.std.proofs.Common.{◌++◌, ℕ, List, [], ◌∷◌, sym, subst}
use Rattle.std.specs.Prelude.{slice_index_or}
use Rattle.account_core.specs.Asked.{Asked, Credits}
use Rattle.account_core.specs.Entries.{EntryData}
use Rattle.account_core.specs.declared.fault.AccountFault.{AccountFault}
use Rattle.dialogue_core.specs.Phases.{Asks}
use Rattle.dialogue_core.specs.Rules.{on_begin}
use Rattle.account_core.specs.Refusals.{IsRefusedAt, Knowing, Refusal}
use Rattle.runs_core.proofs.Talking.{all_right_still, refused_still, right_still}
use Rattle.runs_core.specs.Chains.{AreAnswered}
use Rattle.runs_core.specs.Handled.{AnswerView, AreRefusedRightly, Holding, IsDone}
use Rattle.runs_core.specs.Talks.{Showing}
use Rattle.runs_core.specs.Verdicts.{Begins, GoesOn, Recharges, Rejects, Strays, Verdict, verdict}
use Rattle.run_values.specs.Setups.{Setup}
use Rattle.run_values.specs.declared.post.Post.{Post}

-- posts after posts
pub more_after : (Shows : ℕ → Showing) (setup : Setup) (numbers : List ℕ) (posts later : List Post) (answers answer : List AnswerView) (old between new : Holding)
    → AreAnswered Shows setup numbers posts answers old between → AreAnswered Shows setup numbers later answer between new
    → AreAnswered Shows setup numbers (posts ++ later) (answers ++ answer) old new
more_after Shows setup numbers [] later [] answer old between new are then_are =
    let P : Holding → Type 0 = λ h. AreAnswered Shows setup numbers later answer h new in subst P (sym are) then_are
more_after Shows setup numbers [] later (t ∷ answers) answer old between new are then_are = absurd are
more_after Shows setup numbers (p ∷ posts) later [] answer old between new are then_are = absurd are
more_after Shows setup numbers (p ∷ posts) later (t ∷ answers) answer old between new are then_are =
    (are.0, are.1, more_after Shows setup numbers posts later answers answer are.0 between new are.2 then_are)

-- ---- what showed a refusal shows it later

rightly_still : (Shows Later : ℕ → Showing) → ((place : ℕ) (mine : List EntryData) (asked : Asked) (why : AccountFault) → Shows place mine asked why → Later place mine asked why)
    → (setup : Setup) (numbers : List ℕ) (at : ℕ) (v : Verdict) (old new : Holding) (answer : AnswerView) (done : IsDone setup numbers at v old new answer)
    → AreRefusedRightly Shows setup numbers at v old new answer done → AreRefusedRightly Later setup numbers at v old new answer done
rightly_still Shows Later still setup numbers at Strays old new answer done right = tt
rightly_still Shows Later still setup numbers at Rejects old new answer done right = tt
rightly_still Shows Later still setup numbers at (Recharges place amount until) old new answer done right =
    right_still (Shows place) (Later place) (still place) (slice_index_or old.lists place []) (Asks (Credits amount until)) done.got right
rightly_still Shows Later still setup numbers at (Begins call place called) old new answer done right =
    all_right_still (Shows place) (Later place) (still place) (slice_index_or numbers place 0) (on_begin call at setup.service.wanted setup.service.least done.route) (slice_index_or old.lists place [])
    done.talked.gots right
rightly_still Shows Later still setup numbers at (GoesOn call place said phase) old new answer done right =
    all_right_still (Shows place) (Later place) (still place) (slice_index_or numbers place 0) (said, phase) (slice_index_or old.lists place []) done.gots right

still_answered : (Shows Later : ℕ → Showing) → ((place : ℕ) (mine : List EntryData) (asked : Asked) (why : AccountFault) → Shows place mine asked why → Later place mine asked why)
    → (setup : Setup) (numbers : List ℕ) (posts : List Post) (answers : List AnswerView) (old new : Holding) → AreAnswered Shows setup numbers posts answers old new
    → AreAnswered Later setup numbers posts answers old new
still_answered Shows Later still setup numbers [] [] old new are = are
still_answered Shows Later still setup numbers [] (t ∷ answers) old new are = absurd are
still_answered Shows Later still setup numbers (p ∷ posts) [] old new are = absurd are
still_answered Shows Later still setup numbers (p ∷ posts) (t ∷ answers) old new are = (
  are.0,
  record {
    handled = are.1.handled;
    right = rightly_still Shows Later still setup numbers p.at (verdict setup old.talks p) old are.0 t are.1.handled.done are.1.right;
  },
  still_answered Shows Later still setup numbers posts answers are.0 new are.2,
)

-- what was known at each place is known later
pub answered_still : (Was Later : ℕ → Knowing) → ((place : ℕ) (mine : List EntryData) (refusal : Refusal) → Was place mine refusal → Later place mine refusal)
    → (setup : Setup) (numbers : List ℕ) (posts : List Post) (answers : List AnswerView) (old new : Holding) → AreAnswered (λ place. IsRefusedAt (Was place)) setup numbers posts answers old new
    → AreAnswered (λ place. IsRefusedAt (Later place)) setup numbers posts answers old new
answered_still Was Later still =
    still_answered (λ place. IsRefusedAt (Was place)) (λ place. IsRefusedAt (Later place)) (λ place. refused_still (Was place) (Later place) (still place))
