-- Steps, one after the other.
use Rattle.std.specs.Prelude.{◌≡◌, List, [], ◌∷◌}

-- the steps of a list lead from one state to another, each from where the one before it has led
abbrev pub Chain : {S X : Type 0} → (S → X → S → Type 0) → S → List X → S → Type 0
Chain {S} Step before [] after = after ≡ before
Chain {S} Step before (x ∷ xs) after = (mid : S) × (Step before x mid × Chain Step mid xs after)
