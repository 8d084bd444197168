use Rattle.std.proofs.Common.{◌≡◌, ◌≤◌, ◌+◌, ◌++◌, length, map}
use Rattle.std.specs.Vec.{vec_capacity, vec_len}
use Rattle.std.specs.Vec.Iter.{into_iter_items}
use Rattle.run_command.proofs.jobs.jobs_of.Given as goal

-- the jobs so far have the scripts before those that are left, for which there is room
abbrev pub invariant-loop-script : goal.invariant-loop-script
invariant-loop-script l =
    (map (λ job. job.script) l.jobs.items ++ into_iter_items l.script-iterator ≡ l.fn.scripts.items) × (vec_len l.jobs + length (into_iter_items l.script-iterator) ≤ vec_capacity l.jobs)
