use Rattle.std.proofs.Common.{◌≡◌, ◌≤◌, ◌++◌, ℕ, List, drop, take}
use Rattle.rating.specs.Cuts.{passed_text}
use Rattle.rating.proofs.cursor.Cursor.pass.Given as goal

-- what is left so far is at the front, and what is to come is as it was
abbrev pub invariant-loop-at : goal.invariant-loop-at
invariant-loop-at l =
    (l.kept ≤ l.at) × (l.start ≤ l.at)
    × ((rest : List ℕ) → passed_text l.fn.self (l.fn.piece ++ rest) ≡ take l.kept l.piece ++ passed_text l.self (drop l.at l.piece ++ rest))
