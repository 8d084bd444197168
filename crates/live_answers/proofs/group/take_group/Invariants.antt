use Rattle.std.proofs.Common.{map}
use Rattle.live_answers.specs.Said.{line_view_of}
use Rattle.live_answers.proofs.GroupLemmas.{HasTaken}
use Rattle.live_answers.proofs.group.take_group.Given as goal

-- so many lines were taken, and what they say was judged behind those before them
abbrev pub invariant-loop-count : goal.invariant-loop-count
invariant-loop-count g l =
    HasTaken (g.I.Read.remaining l.fn.input) (g.I.Read.remaining l.input) l.fn.group.next l.fn.group.last (map line_view_of l.group.said.items) l.group.logged.items l.group.next l.group.last l._count
