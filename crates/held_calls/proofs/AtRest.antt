-- A dialogue that asks nothing at first gets nothing.
use Rattle.std.proofs.Common.{◌≡◌, ◌∙◌, false, List, [], ◌∷◌, refl, sym, ap}
use Rattle.dialogue_core.specs.Phases.{Phase, Says}
use Rattle.held_calls.specs.Workers.{WhatIsSaidIsSent}
use Rattle.dialogue_core.specs.Talks.{Got, is_ask, orders_sent_by}
use Rattle.runs_core.specs.Talks.{AllAsk, last_fault}

-- the first of the replies would need a pending ask
pub nothing_asked : (first : Says × Phase) (gots : List Got) → is_ask first.0 ≡ false → AllAsk first gots → gots ≡ []
nothing_asked first [] rests asked = refl
nothing_asked first (got ∷ []) rests asked = let pending = asked.0 in absurd (cc)
nothing_asked first (got ∷ (last ∷ earlier)) rests asked = let none = nothing_asked first (last ∷ earlier) rests asked.1 in cc

pub said_is_sent : WhatIsSaidIsSent
said_is_sent numbers call place first old new answer rests is =
    let none : is.gots ≡ [] = nothing_asked first is.gots rests is.asked in
    let said : first.0 ≡ is.last = ap (λ (p : Says × Phase). p.0) (rw none at is.talk) in
    (is.orders ∙ ap orders_sent_by (sym said), is.refused ∙ ap last_fault none)
