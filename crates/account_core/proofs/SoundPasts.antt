-- Every legal history is sound.
use Rattle.std.proofs.Common.{◌≡◌, ℕ, ◌+◌, ◌-◌, ◌≤◌, Bool, true, false, None, Option, List, [], ◌∷◌, refl, ap, ◌∙◌, arith, subst}
use Rattle.std.specs.Prelude.{◌==◌}
use Rattle.std.proofs.lemmas.Bool.{eqb-true}
use Rattle.account_core.specs.Answers.{IsAnswered, IsLegalPast, answer, bare_reply}
use Rattle.account_core.specs.Available.{available, credited, credits, taken_by_all}
use Rattle.account_core.specs.Entries.{EntryData}
use Rattle.account_core.specs.Known.{CallFacts, deed_of, known, known_after, taken_of}
use Rattle.account_core.specs.Sound.{IsSound, IsSoundPast}
use Rattle.account_core.proofs.Moves.{its_call, its_deed, known_apart, known_here, sum_moves}
use Rattle.account_core.proofs.Soundness.{IsAllowed, sound_after, takes_within}
use Rattle.account_core.specs.TariffLaws.{TariffLaws}
use Rattle.account_core.proofs.Verdicts.{credited_capped, credited_showing, deed_showing, verdict_allowed}

pub nothing_taken : (call : CallFacts) → call.plan ≡ None → taken_of call ≡ 0
unfolding taken_of
nothing_taken call none = rw none refl

-- what all calls take moves as the entry's own call does
pub taken_moves : (h : List EntryData) (entry : EntryData)
    → taken_by_all (entry ∷ h) + taken_of (known (its_call entry) h) ≡ taken_by_all h + taken_of (known_after (known (its_call entry) h) (its_deed entry))
unfolding taken_by_all
taken_moves h entry = sum_moves taken_of nothing_taken h entry

-- an answer, but for what it shows
pub answered_deed : (opening : ℕ) (until : Option ℕ) (h : List EntryData) (entry : EntryData) → IsAnswered opening until h entry → its_deed entry ≡ deed_of entry.asked (bare_reply opening until h entry.asked)
unfolding answer
answered_deed opening until h entry answered = ap (deed_of entry.asked) answered.answered ∙ deed_showing entry.asked (bare_reply opening until h entry.asked) _

pub answered_credit : (opening : ℕ) (until : Option ℕ) (h : List EntryData) (entry : EntryData) → IsAnswered opening until h entry → credited entry.asked entry.reply ≡ credited entry.asked (bare_reply opening until h entry.asked)
unfolding answer
answered_credit opening until h entry answered = ap (credited entry.asked) answered.answered ∙ credited_showing entry.asked (bare_reply opening until h entry.asked) _

covered_more : (funds taken taken' t t' more credit : ℕ) → taken ≤ funds → credit ≡ funds - taken → taken' + t ≡ taken + t' → t' ≤ credit + t → taken' ≤ funds + more
covered_more funds taken taken' t t' more credit covered is moves within = omega arith

pub available_is : (opening : ℕ) (h : List EntryData) → available opening h ≡ opening + credits h - taken_by_all h
unfolding available
available_is opening h = refl

module _ (laws : TariffLaws) where
  pub entry_allowed : (opening : ℕ) (until : Option ℕ) (h : List EntryData) (entry : EntryData) → IsSound (known (its_call entry) h) → IsAnswered opening until h entry
      → IsAllowed (available opening h) (known (its_call entry) h) (its_deed entry)
  entry_allowed opening until h entry sound answered =
      rw (answered_deed opening until h entry answered) (verdict_allowed laws opening until h entry.asked sound answered.admissible)

  each_by : (here : Bool) (opening : ℕ) (until : Option ℕ) (h : List EntryData) (entry : EntryData) (call : ℕ) → (its_call entry == call) ≡ here → ((c : ℕ) → IsSound (known c h))
      → IsAnswered opening until h entry → IsSound (known call (entry ∷ h))
  each_by true opening until h entry call is each answered =
      let P : ℕ → Type 0 = λ c. IsSound (known c (entry ∷ h)) in
      subst P (eqb-true (its_call entry) call is)
      (rw (known_here h entry)
      (sound_after laws (available opening h) (known (its_call entry) h) (its_deed entry) (each (its_call entry)) (entry_allowed opening until h entry (each (its_call entry)) answered)))
  each_by false opening until h entry call is each answered = rw (known_apart h entry call is) (each call)

  sound_more : (opening : ℕ) (until : Option ℕ) (h : List EntryData) (entry : EntryData) → IsSoundPast opening h → IsAnswered opening until h entry → IsSoundPast opening (entry ∷ h)
  sound_more opening until h entry sound answered =
      let c : ℕ = its_call entry in
      let within = takes_within laws (available opening h) (known c h) (its_deed entry) (sound.each c) (entry_allowed opening until h entry (sound.each c) answered) in
      let added : credited entry.asked entry.reply ≡ credited entry.asked (bare_reply opening until h entry.asked) = answered_credit opening until h entry answered in
      record {
        each = λ call. each_by _ opening until h entry call refl sound.each answered;
        covered = omega (
          arith,
          covered_more (opening + credits h) (taken_by_all h) (taken_by_all (entry ∷ h)) (taken_of (known c h))
              (taken_of (known_after (known c h) (its_deed entry))) (credited entry.asked entry.reply) (available opening h)
              sound.covered (available_is opening h) (taken_moves h entry) within,
        );
        capped = omega (arith, added, credited_capped opening until h entry.asked sound.capped);
      }

  none_taken : taken_by_all [] ≡ 0
  unfolding taken_by_all
  none_taken = refl

  pub legal_is_sound : (opening : ℕ) (until : Option ℕ) (h : List EntryData) → opening ≤ 1000000000000000 → IsLegalPast opening until h → IsSoundPast opening h
  legal_is_sound opening until [] small legal =
      record { each = λ call. refl; covered = omega (arith, none_taken); capped = omega (arith, small) }
  legal_is_sound opening until (entry ∷ h) small legal = sound_more opening until h entry (legal_is_sound opening until h small legal.0) legal.1
