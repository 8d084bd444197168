-- What is kept of a legal history is kept as legal entries are added to it.
use Rattle.std.proofs.Common.{◌≡◌, ℕ, ◌+◌, ◌≤◌, Option, None, Some, List, [], ◌∷◌, sym, ap, ◌∙◌, refl, arith, rules, subst}
use Rattle.std.specs.Prelude.{◌≢◌, Err, Ok, Result}
use Rattle.account_core.specs.Answers.{IsAnswered, answer, inadmissible, inadmissible_for, shown_by}
use Rattle.account_core.specs.Available.{credited}
use Rattle.account_core.specs.Entries.{EntryData}
use Rattle.account_core.specs.CallStates.{Renews, call_state_of}
use Rattle.account_core.specs.Expiry.{last_moment_after}
use Rattle.account_core.specs.Kept.{KnowsEach, known_of}
use Rattle.account_core.specs.Known.{CallFacts, known, known_after, taken_of}
use Rattle.account_core.specs.Replies.{reply_for}
use Rattle.account_core.specs.Sound.{GrantsWithinDay, IsSound, LegalPastsAreSound, SoundPastsAnswer}
use Rattle.account_core.specs.Tallied.{IsTallied, tally_of}
use Rattle.account_core.specs.Wrong.{IsWrong, reply_or_fault as response_of}
use Rattle.account_core.specs.declared.entry.Reply.{Reply}
use Rattle.account_core.specs.declared.fault.AccountFault.{AccountFault}
use Rattle.account_core.specs.declared.call_states.CallStates.{CallStates}
use Rattle.account_core.specs.declared.call_state.CallState.{CallState}
use Rattle.account_core.specs.declared.call_state.CallState.TheVariants.{Fresh}
use Rattle.account_core.specs.declared.tally.Tally.{Tally}
use Rattle.account_core.proofs.Answering.{money_kept, reply_is_answer}
use Rattle.account_core.proofs.Entering.{nothing_taken_yet, tells_renewed}
use Rattle.account_core.proofs.Fitting.{answer_shows}
use Rattle.account_core.proofs.Moves.{its_call, its_deed}
use Rattle.account_core.proofs.Walking.{room_walk}

pub tallied_new : (opening : ℕ) (until : Option ℕ) (calls : CallStates) → opening ≤ 1000000000000000
    → ((call : ℕ) → call_state_of calls call ≡ Fresh) → IsTallied opening until [] (tally_of calls opening opening until)
tallied_new opening until calls small none = record {
  small = small;
  legal = tt;
  tells = λ call. ap known_of (none call);
  funds_are = omega arith;
  credit_is = sym (nothing_taken_yet opening);
  last_is = refl;
}

-- ---- an entry, by the state of its call

abbrev reply_in : Reply → Result Reply AccountFault → Reply
reply_in other (Ok reply) = reply
reply_in other (Err why) = other

module _ (opening : ℕ) (until : Option ℕ) (h : List EntryData) (tally : Tally) (entry : EntryData) (call : ℕ) (here : call ≡ its_call entry) (state : CallState)
    (state_is : state ≡ call_state_of tally.calls call) (tallied : IsTallied opening until h tally) where
  call_is : known_of state ≡ known (its_call entry) h
  call_is = ap known_of state_is ∙ (tallied.tells call ∙ ap (λ call. known call h) here)

  pub state_sound : LegalPastsAreSound → IsSound (known_of state)
  state_sound sounds =
      let P : CallFacts → Type 0 = λ k. IsSound k in
      subst P (sym call_is) ((sounds opening until h tallied.small tallied.legal).each (its_call entry))

  pub response_money : LegalPastsAreSound → tally.available + taken_of (known_of state) ≤ 1000000000000000
  response_money sounds =
      money_kept opening h (sounds opening until h tallied.small tallied.legal) entry.asked (known_of state) call_is tally.available tallied.credit_is

  admissible_is : inadmissible_for (known_of state) entry.asked ≡ inadmissible h entry.asked
  admissible_is = ap (λ k. inadmissible_for k entry.asked) call_is

  pub refused_response : (why : AccountFault) → inadmissible_for (known_of state) entry.asked ≡ Some why → IsWrong opening until h entry (Err why)
  refused_response why some = record {
    is_response = sym (ap (λ found. response_of found (answer opening until h entry.asked)) (sym admissible_is ∙ some));
    differs = λ same. search rules;
  }

  -- of an admissible entry, the reply by what is kept is the answer
  response_answer : LegalPastsAreSound → SoundPastsAnswer → inadmissible h entry.asked ≡ None
      → (reply : Reply) → reply ≡ reply_for tally.available tally.funds tally.last_moment (known_of state) entry.asked → reply ≡ answer opening until h entry.asked
  response_answer sounds fits admissible reply reply_is =
      let sound = sounds opening until h tallied.small tallied.legal in
      reply_is_answer opening until h sound (fits opening until h sound) entry.asked (known_of state) call_is tally.available tally.funds tally.last_moment
      tallied.credit_is tallied.funds_are tallied.last_is admissible reply reply_is

  pub response_legal : LegalPastsAreSound → SoundPastsAnswer → inadmissible_for (known_of state) entry.asked ≡ None
      → (reply : Reply) → reply ≡ reply_for tally.available tally.funds tally.last_moment (known_of state) entry.asked → reply ≡ entry.reply
      → IsAnswered opening until h entry
  response_legal sounds fits none reply reply_is same =
      let admissible : inadmissible h entry.asked ≡ None = sym admissible_is ∙ none in
      record { admissible = admissible; answered = sym same ∙ response_answer sounds fits admissible reply reply_is }

  pub replied_response : LegalPastsAreSound → SoundPastsAnswer → inadmissible_for (known_of state) entry.asked ≡ None
      → (reply : Reply) → reply ≡ reply_for tally.available tally.funds tally.last_moment (known_of state) entry.asked → reply ≢ entry.reply
      → IsWrong opening until h entry (Ok reply)
  replied_response sounds fits none reply reply_is other =
      let admissible : inadmissible h entry.asked ≡ None = sym admissible_is ∙ none in
      record {
        is_response = ap Ok (response_answer sounds fits admissible reply reply_is) ∙ sym (ap (λ found. response_of found (answer opening until h entry.asked)) admissible);
        differs = λ same. other (ap (reply_in reply) same);
      }

  pub response_room : LegalPastsAreSound → SoundPastsAnswer → IsAnswered opening until h entry → GrantsWithinDay (known_of state) (its_deed entry)
  response_room sounds fits answered =
      room_walk sounds fits opening until h tallied.small tallied.legal entry answered (known_of state) (its_call entry) call_is refl

  pub tells_after : (new : CallStates) (after : CallState) → Renews tally.calls new call after → known_of after ≡ known_after (known_of state) (its_deed entry)
      → KnowsEach new (entry ∷ h)
  tells_after new after renews after_is =
      let R : ℕ → Type 0 = λ call. Renews tally.calls new call after in
      tells_renewed tally.calls new h entry after (subst R here renews) tallied.tells (after_is ∙ ap (λ k. known_after k (its_deed entry)) call_is)

-- ---- an entry that was answered

module _ (opening : ℕ) (until : Option ℕ) (h : List EntryData) (tally : Tally) (entry : EntryData) (tallied : IsTallied opening until h tally)
    (answered : IsAnswered opening until h entry) where
  pub funds_more : LegalPastsAreSound → tally.funds + credited entry.asked entry.reply ≤ 1000000000000000
  funds_more sounds = omega (arith, tallied.funds_are, (sounds opening until (entry ∷ h) tallied.small (tallied.legal, answered)).capped)

  pub tallied_more : (calls : CallStates) → KnowsEach calls (entry ∷ h)
      → IsTallied opening until (entry ∷ h)
      (tally_of calls (tally.funds + credited entry.asked entry.reply) (shown_by entry.reply) (last_moment_after tally.last_moment entry.asked entry.reply))
  tallied_more calls tells = record {
    small = tallied.small;
    legal = (tallied.legal, answered);
    tells = tells;
    funds_are = omega (arith, tallied.funds_are);
    credit_is = answer_shows opening until h entry answered.answered;
    last_is = ap (λ l. last_moment_after l entry.asked entry.reply) tallied.last_is;
  }
