use Rattle.std.proofs.Common.{◌≡◌, ◌++◌, List, ap, ◌∙◌}
use Rattle.example_driver.proofs.switch.SwitchDriver.round.Goals as goal

one_more : {A : Type 0} (added : List A) {old heard new : List A} → heard ≡ old → new ≡ heard ++ added → (more : List A) × (new ≡ old ++ more)
one_more added same more = (added, more ∙ ap (λ items. items ++ added) same)

pub returns-clause-grows : goal.returns-clause-grows
returns-clause-grows c = one_more _ (ap (λ given. given.items) (c.next_message.ensures ∙ c.obey.ensures)) c.in_ok-give.ensures.given
