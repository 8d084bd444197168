use Rattle.std.proofs.Common.{◌≡◌, ◌≤◌, ◌+◌, ◌++◌, drop, map, string_bytes}
use Rattle.live_answers.specs.Groups.{group_rows, line_behind}
use Rattle.live_answers.specs.Said.{line_view_of}
use Rattle.live_answers.proofs.saying.say.Given as goal

-- what is printed of all lines are the rows so far, and then those of the lines that are left
abbrev pub invariant-loop-one : goal.invariant-loop-one
invariant-loop-one g l =
    (l.first ≤ l.place) × (l.place ≤ l.first + l.one-index)
    × (line_behind l.replay l.line l.place (map line_view_of (drop l.one-index l.said)) ≡ line_behind l.replay l.before l.first (map line_view_of l.said))
    × (string_bytes l.text ++ group_rows l.replay l.first l.answers l.line l.place (map line_view_of (drop l.one-index l.said))
    ≡ group_rows l.replay l.first l.answers l.before l.first (map line_view_of l.said))
