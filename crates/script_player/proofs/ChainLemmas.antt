-- Chains of steps, grown at their end.
use Rattle.std.proofs.Common.{List, [], ◌∷◌, ◌++◌, refl, subst}
use Rattle.script_player.specs.Chains.{Chain}

-- one step more
pub chain_more : {S X : Type 0} (Step : S → X → S → Type 0) (before between after : S) (xs : List X) (x : X) → Chain Step before xs between → Step between x after
    → Chain Step before (xs ++ x ∷ []) after
chain_more {S} Step before between after [] x chain step =
    let P : S → Type 0 = λ s. Step s x after in
    (after, (subst P chain step, refl))
chain_more Step before between after (y ∷ xs) x chain step = (chain.0, (chain.1.0, chain_more Step chain.0 between after xs x chain.1.1 step))
