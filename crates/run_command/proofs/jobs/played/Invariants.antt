use Rattle.std.proofs.Common.{◌≡◌, ◌≤◌, ◌+◌, ◌++◌, Ok, length, map}
use Rattle.std.specs.Vec.{vec_capacity, vec_len}
use Rattle.std.specs.Vec.Iter.{into_iter_items}
use Rattle.run_command.proofs.jobs.played.Given as goal

-- what is kept so far is what came of the jobs before those that are left, for which there is room
abbrev pub invariant-loop-job : goal.invariant-loop-job
invariant-loop-job l =
    (map (λ part. Ok part) l.parts.items ++ map (λ job. job.played) (into_iter_items l.job-iterator) ≡ map (λ job. job.played) l.fn.jobs.items)
    × (vec_len l.parts + length (into_iter_items l.job-iterator) ≤ vec_capacity l.parts)
