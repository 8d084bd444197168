use Rattle.std.proofs.Common.{◌≡◌, ◌∙◌, Ok, map, refl, rules, arith}
use Rattle.std.specs.Vec.Iter.{into_iter_items}
use Rattle.std.proofs.lemmas.Result.{err_from_is_err_and}
use Rattle.run_command.proofs.Jobbing.{all_kept, kept_as, next_fault, taken_to}
use Rattle.run_command.proofs.jobs.played.Goals as goal

pub loop-job-init : goal.loop-job-init
loop-job-init c =
    rw (c.into_iter-job-iterator.ensures.into_iter_gives.0, c.in_ok-parts.ensures.items)
    (refl, omega (arith, c.in_ok-parts.ensures.len, c.in_ok-parts.ensures.capacity, c.len.ensures, c.args.jobs.ok))

pub loop-job-preserved : goal.loop-job-preserved
loop-job-preserved c =
    let is : c.in-Some.job.played ≡ Ok c.in_ok-job.field-0 = search rules in
    let before = rw (c.in-Some.ensures.steps.0, is) at c.loop-job.invariant in (
      rw c.push_reserved.ensures.items (taken_to kept_as c.loop-job.parts.items c.in_ok-job.field-0 (map (λ job. job.played) (into_iter_items c.next.new.self)) ∙ before.0),
      omega (arith, before.1, c.push_reserved.ensures.len, c.push_reserved.ensures.capacity),
    )

pub push_reserved-requires : goal.push_reserved-requires
push_reserved-requires c = let before = rw c.in-Some.ensures.steps.0 at c.loop-job.invariant in omega (arith, before.1)

pub returns-in_err-job-clause-fault : goal.returns-in_err-job-clause-fault
returns-in_err-job-clause-fault c = λ workers each.
    let failed = err_from_is_err_and c.from_residual-in_err-job.result c.from_residual-in_err-job.ensures.1 in
    let before = rw c.in-Some.ensures.steps.0 at c.loop-job.invariant in
    rw (failed.1, failed.2) (next_fault workers c.args.jobs.items c.loop-job.parts.items c.in-Some.job.played _ c.in_err-job.field-0.0 c.in_err-job.was before.0 each)

pub returns-clause-parts : goal.returns-clause-parts
returns-clause-parts c =
    all_kept c.args.jobs.items _ c.loop-job.parts.items (omega (arith, c.in-None.ensures.steps.0, c.loop-job.job-iterator.rest.ok)) c.loop-job.invariant.0
