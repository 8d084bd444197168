-- Chains of posts that are handled twice.
use Rattle.std.proofs.Common.{◌≡◌, ◌++◌, ℕ, Option, None, List, [], ◌∷◌, length, map, refl, sym, ap, subst, ◌∙◌}
use Rattle.account_core.specs.Entries.{EntryData}
use Rattle.live_recovery.proofs.Alike.{GoAlike, ItemsAlike, done_as}
use Rattle.live_recovery.proofs.Handling.{AreAlike, AreLegal, Begin, HoldAlike, begin_further, begin_itself, done_alike, done_goes_on}
use Rattle.tariff_core.specs.Laws.{IsProper}
use Rattle.run_values.specs.Setups.{Setup}
use Rattle.run_values.specs.declared.post.Body.{Body}
use Rattle.run_values.specs.declared.post.Body.TheVariants.{Ssf, Recharge}
use Rattle.run_values.specs.declared.post.Post.{Post}
use Rattle.runs_core.specs.Shares.{Item, item_of}
use Rattle.runs_core.proofs.Handling.{means_on, placed_after}
use Rattle.runs_core.specs.Chains.{AreAnswered}
use Rattle.runs_core.specs.Handled.{AnswerView, Holding, IsDone}
use Rattle.runs_core.specs.Talks.{Showing}
use Rattle.runs_core.specs.Verdicts.{DialogueAt, Verdict, spoken, verdict, verdict_on}
use Rattle.runs_core.specs.Workers.{ArePlaced}

-- no ask was refused for any of these answers
abbrev pub NoFault : List AnswerView → Type 0
NoFault [] = Unit {0}
NoFault (answer ∷ answers) = (answer.refused ≡ None) × NoFault answers

verdict_alike : (setup : Setup) (talks also : ℕ → Option DialogueAt) (number at : ℕ) (body : Body) → ((call : ℕ) → talks call ≡ also call)
    → verdict_on setup talks number at body ≡ verdict_on setup also number at body
verdict_alike setup talks also number at (Ssf call message) same = ap (spoken setup number at call message) (same call)
verdict_alike setup talks also number at (Recharge account amount until) same = refl

-- the lists of a chain only grow
pub chain_begins : (Shows : ℕ → Showing) (setup : Setup) (numbers : List ℕ) (posts : List Post) (answers : List AnswerView) (old new : Holding)
    → AreAnswered Shows setup numbers posts answers old new → Begin old.lists new.lists
chain_begins Shows setup numbers [] [] old new are = subst (λ (h : Holding). Begin old.lists h.lists) are (begin_itself old.lists)
chain_begins Shows setup numbers [] (answer ∷ answers) old new are = absurd are
chain_begins Shows setup numbers (post ∷ posts) [] old new are = absurd are
chain_begins Shows setup numbers (post ∷ posts) (answer ∷ answers) old new are =
    begin_further old.lists are.0.lists new.lists (done_goes_on setup numbers post.at (verdict setup old.talks post) old are.0 answer are.1.handled.done).begin
    (chain_begins Shows setup numbers posts answers are.0 new are.2)

-- a chain that begins as another one
pub record ChainsAreAlike (answers longer : List AnswerView) (more : List Item) (new other : Holding) : Type 0 where
  pub rest : List AnswerView
  pub answers_are : longer ≡ answers ++ rest
  pub same : more ≡ [] → (rest ≡ []) × (new.lists ≡ other.lists)

module _ (opening_at : ℕ → ℕ) (until_at : ℕ → Option ℕ) (Shows Others : ℕ → Showing) (setup : Setup) (numbers : List ℕ) (one : IsProper setup.tariff) where
  -- two posts that say the same
  pub once_alike : (post other : Post) (old new again last : Holding) (answer also : AnswerView) (ends endings : List (List EntryData)) → ItemsAlike (item_of post) (item_of other)
      → length old.lists ≡ length setup.accounts → ArePlaced (length setup.accounts) old.talks → HoldAlike old again → answer.number ≡ post.number → also.number ≡ other.number
      → answer.refused ≡ None → also.refused ≡ None → Begin new.lists ends → AreLegal opening_at until_at (length setup.accounts) ends
      → Begin last.lists endings → AreLegal opening_at until_at (length setup.accounts) endings
      → IsDone setup numbers post.at (verdict setup old.talks post) old new answer → IsDone setup numbers other.at (verdict setup again.talks other) again last also
      → AreAlike answer also new last
  once_alike post other old new again last answer also ends endings is many placed hold number number_too none none_too begin legal begin_too legal_too done done_too =
      let V : Verdict → Type 0 = λ v. IsDone setup numbers other.at v again last also in
      let N : ℕ → Type 0 = λ n. IsDone setup numbers other.at (verdict_on setup old.talks n other.at other.body) again last also in
      let A : ℕ → Type 0 = λ a. IsDone setup numbers a (verdict_on setup old.talks post.number a other.body) again last also in
      let talks = subst V (sym (verdict_alike setup old.talks again.talks other.number other.at other.body hold.talks)) done_too in
      let there = subst A (sym is.at) (subst N (sym is.number) talks) in
      done_alike opening_at until_at setup numbers post (verdict setup old.talks post) old new again last answer also ends endings one many placed
      (means_on setup old.talks post.number post.at post.body) hold (number ∙ is.number ∙ sym number_too) none none_too begin legal begin_too legal_too done
      (done_as setup numbers post.number post.at again last also old.talks post.body other.body is.body there)

  pub chains_alike : (posts others : List Post) (more : List Item) (answers longer : List AnswerView) (old new again last : Holding)
      → GoAlike (map item_of posts) (map item_of others) more → length old.lists ≡ length setup.accounts → ArePlaced (length setup.accounts) old.talks → HoldAlike old again
      → NoFault answers → NoFault longer → AreLegal opening_at until_at (length setup.accounts) new.lists → AreLegal opening_at until_at (length setup.accounts) last.lists
      → AreAnswered Shows setup numbers posts answers old new → AreAnswered Others setup numbers others longer again last
      → ChainsAreAlike answers longer more new last
  chains_alike [] others more [] longer old new again last is many placed hold none none_too legal legal_too are too = record {
    rest = longer;
    answers_are = refl;
    same = λ nothing. let none_left = nothing_left others longer again last (is ∙ nothing) too in
        (none_left.0, ap (λ (h : Holding). h.lists) (sym are) ∙ hold.lists ∙ ap (λ (h : Holding). h.lists) none_left.1);
  }
    where
      nothing_left : (others : List Post) (longer : List AnswerView) (again last : Holding) → map item_of others ≡ [] → AreAnswered Others setup numbers others longer again last
          → (longer ≡ []) × (again ≡ last)
      nothing_left [] [] again last is too = (refl, too)
      nothing_left [] (answer ∷ longer) again last is too = absurd too
      nothing_left (other ∷ others) longer again last is too = absurd (cc)
  chains_alike [] others more (answer ∷ answers) longer old new again last is many placed hold none none_too legal legal_too are too = absurd are
  chains_alike (post ∷ posts) others more [] longer old new again last is many placed hold none none_too legal legal_too are too = absurd are
  chains_alike (post ∷ posts) [] more (answer ∷ answers) longer old new again last is many placed hold none none_too legal legal_too are too = absurd is
  chains_alike (post ∷ posts) (other ∷ others) more (answer ∷ answers) [] old new again last is many placed hold none none_too legal legal_too are too = absurd too
  chains_alike (post ∷ posts) (other ∷ others) more (answer ∷ answers) (also ∷ longer) old new again last is many placed hold none none_too legal legal_too are too =
      let between = are.0 in
      let between_too = too.0 in
      let alike = once_alike post other old between again between_too answer also new.lists last.lists is.0 many placed hold are.1.handled.number too.1.handled.number none.0 none_too.0
      (chain_begins Shows setup numbers posts answers between new are.2) legal (chain_begins Others setup numbers others longer between_too last too.2) legal_too
      are.1.handled.done too.1.handled.done in
      let goes = done_goes_on setup numbers post.at (verdict setup old.talks post) old between answer are.1.handled.done in
      let rest = chains_alike posts others more answers longer between new between_too last is.1 (goes.many ∙ many)
      (placed_after setup numbers post old between answer placed are.1.handled.done) alike.hold none.1 none_too.1 legal legal_too are.2 too.2 in
      record {
        rest = rest.rest;
        answers_are = ap (λ (t : AnswerView). t ∷ longer) (sym alike.answer_is) ∙ ap (λ (l : List AnswerView). answer ∷ l) rest.answers_are;
        same = rest.same;
      }
