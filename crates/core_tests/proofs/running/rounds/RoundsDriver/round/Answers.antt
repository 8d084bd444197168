use Rattle.std.proofs.Common.{◌≡◌, ◌++◌, List, ap, refl, ◌∙◌}
use Rattle.std.proofs.lemmas.List.{append_assoc}
use Rattle.core_tests.proofs.running.rounds.RoundsDriver.round.Goals as goal

abbrev Grows : {A : Type 0} → List A → List A → Type 0
Grows {A} old new = (added : List A) × (new ≡ old ++ added)

one_more : {A : Type 0} (added : List A) {old heard new : List A} → heard ≡ old → new ≡ heard ++ added → Grows old new
one_more added same more = (added, more ∙ ap (λ items. items ++ added) same)

two_more : {A : Type 0} (one other : List A) {old heard mid new : List A} → heard ≡ old → mid ≡ heard ++ one → new ≡ mid ++ other → Grows old new
two_more one other {old = old} same more again =
    (one ++ other, again ∙ ap (λ items. items ++ other) (more ∙ ap (λ items. items ++ one) same) ∙ append_assoc old one other)

pub returns-in_ok-give-2-clause-grows : goal.returns-in_ok-give-2-clause-grows
returns-in_ok-give-2-clause-grows c =
    two_more _ _ refl c.in_ok-give.ensures.given c.in_ok-give-2.ensures.given

pub returns-in_default-clause-grows : goal.returns-in_default-clause-grows
returns-in_default-clause-grows c = one_more _ refl c.in_ok-give.ensures.given
