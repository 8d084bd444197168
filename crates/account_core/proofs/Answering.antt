-- The replies that an account gives by what it keeps are the answers of its history.
use Rattle.std.proofs.Common.{◌≡◌, ℕ, ◌+◌, ◌≤◌, Option, None, List, sym, ◌∙◌, arith, subst}
use Rattle.account_core.specs.Answers.{answer, inadmissible}
use Rattle.account_core.specs.Asked.{Asked, call_of}
use Rattle.account_core.specs.Available.{available, credits}
use Rattle.account_core.specs.Entries.{EntryData}
use Rattle.account_core.specs.Expiry.{last_moment}
use Rattle.account_core.specs.Known.{CallFacts, known, taken_of}
use Rattle.account_core.specs.Replies.{reply_for}
use Rattle.account_core.specs.Sound.{AnswersFit, IsSoundPast}
use Rattle.account_core.specs.declared.entry.Reply.{Reply}
use Rattle.account_core.proofs.Fitting.{answer_for, money_within}

module _ (opening : ℕ) (h : List EntryData) (sound : IsSoundPast opening h) where
  pub funds_kept : (funds : ℕ) → funds ≡ opening + credits h → funds ≤ 1000000000000000
  funds_kept funds funds_are = omega (arith, funds_are, sound.capped)

  module _ (asked : Asked) (call : CallFacts) (call_is : call ≡ known (call_of asked) h) where
    pub money_kept : (credit : ℕ) → credit ≡ available opening h → credit + taken_of call ≤ 1000000000000000
    money_kept credit credit_is =
        let P : CallFacts → Type 0 = λ k. credit + taken_of k ≤ 1000000000000000 in
        subst P (sym call_is) (omega (arith, credit_is, money_within opening h (call_of asked) sound))

-- what an account replies by its totals and its last moment is the answer of its history
pub reply_is_answer : (opening : ℕ) (until : Option ℕ) (h : List EntryData) → IsSoundPast opening h → AnswersFit opening until h
    → (asked : Asked) (call : CallFacts) → call ≡ known (call_of asked) h
    → (credit funds : ℕ) (last : Option ℕ) → credit ≡ available opening h → funds ≡ opening + credits h → last ≡ last_moment until h → inadmissible h asked ≡ None
    → (response : Reply) → response ≡ reply_for credit funds last call asked → response ≡ answer opening until h asked
reply_is_answer opening until h sound fitting asked call call_is credit funds last credit_is funds_are last_is is response response_is =
    let C : ℕ → Type 0 = λ n. response ≡ reply_for n funds last call asked in
    let F : ℕ → Type 0 = λ n. response ≡ reply_for (available opening h) n last call asked in
    let L : Option ℕ → Type 0 = λ n. response ≡ reply_for (available opening h) (opening + credits h) n call asked in
    let K : CallFacts → Type 0 = λ k. response ≡ reply_for (available opening h) (opening + credits h) (last_moment until h) k asked in
    subst K call_is (subst L last_is (subst F funds_are (subst C credit_is response_is))) ∙ sym (answer_for opening until h sound fitting asked is)
