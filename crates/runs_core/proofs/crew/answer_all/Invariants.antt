use Rattle.std.proofs.Common.{◌+◌, ◌≤◌, length}
use Rattle.std.specs.Vec.{vec_capacity, vec_len}
use Rattle.std.specs.Vec.Iter.{into_iter_items}
use Rattle.runs_core.proofs.WorkerLemmas.{AreGoing}
use Rattle.runs_core.proofs.crew.answer_all.Given as goal
use Rattle.runs_core.specs.Workers.{number_by}

abbrev pub invariant-loop-post : goal.invariant-loop-post
invariant-loop-post g l =
    AreGoing (number_by g.S.Shared.terms) g.S.Shared.key g.S.Shared.reads g.S.Shared.was l.fn.worker l.fn.posts.items (into_iter_items l.post-iterator) l.answers.items l.worker
    × (vec_len l.answers + length (into_iter_items l.post-iterator) ≤ vec_capacity l.answers)
