use Rattle.std.proofs.Common.{refl, arith, ◌∙◌}
use Rattle.std.specs.Vec.Iter.{into_iter_items}
use Rattle.run_command.proofs.Jobbing.{taken_to}
use Rattle.run_command.specs.declared.jobs.Job.{Job}
use Rattle.run_command.proofs.jobs.jobs_of.Goals as goal

pub loop-script-init : goal.loop-script-init
loop-script-init c =
    rw (c.into_iter-script-iterator.ensures.into_iter_gives.0, c.in_ok-jobs.ensures.items)
    (refl, omega (arith, c.in_ok-jobs.ensures.len, c.in_ok-jobs.ensures.capacity, c.len.ensures, c.args.scripts.ok))

pub loop-script-preserved : goal.loop-script-preserved
loop-script-preserved c =
    let before = rw c.in-Some.ensures.steps.0 at c.loop-script.invariant in (
      rw c.push_reserved.ensures.items (taken_to (λ (job : Job). job.script) c.loop-script.jobs.items _ (into_iter_items c.next.new.self) ∙ before.0),
      omega (arith, before.1, c.push_reserved.ensures.len, c.push_reserved.ensures.capacity),
    )

pub push_reserved-requires : goal.push_reserved-requires
push_reserved-requires c = let before = rw c.in-Some.ensures.steps.0 at c.loop-script.invariant in omega (arith, before.1)
