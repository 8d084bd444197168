use Rattle.std.proofs.Common.{◌≡◌, ◌≤◌, ◌++◌, ℕ, List, All, drop, flat_map, map}
use Rattle.live_answers.specs.Live.{given_by, item_view}
use Rattle.live_answers.specs.Said.{line_view_of}
use Rattle.run_values.specs.declared.post.Body.{Body}
use Rattle.live_answers.proofs.saying.give.Given as goal

-- with the messages of the lines that are left, those of all lines are given
abbrev pub invariant-loop-one : goal.invariant-loop-one
invariant-loop-one l =
    ((added : List (ℕ × Body)) × (l.given.items ≡ l.fn.given.items ++ added))
    × All (λ item. item.0 ≤ 2000000000000) l.given.items
    × (map item_view l.given.items ++ flat_map given_by (map line_view_of (drop l.one-index l.said)) ≡ map item_view l.fn.given.items ++ flat_map given_by (map line_view_of l.said))
