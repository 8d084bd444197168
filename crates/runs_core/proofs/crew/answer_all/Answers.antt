use Rattle.std.proofs.Common.{arith, refl, rules}
use Rattle.std.specs.Vec.Iter.{into_iter_items}
use Rattle.std.proofs.lemmas.List.{nil_from_length}
use Rattle.runs_core.proofs.WorkerLemmas.{all_going, none_going, one_going}
use Rattle.runs_core.proofs.crew.answer_all.Goals as goal
use Rattle.runs_core.specs.Workers.{holding, number_by}

pub loop-post-init : goal.loop-post-init
loop-post-init g c =
    let whole = c.into_iter-post-iterator.ensures.into_iter_gives.0 in (
      none_going (number_by g.S.Shared.terms) g.S.Shared.key g.S.Shared.reads g.S.Shared.was _ _ _ _ whole (search rules) c.requires.ready,
      rw (whole) (omega (arith, c.in_ok-answers.ensures.len, c.in_ok-answers.ensures.capacity, c.len.ensures, c.args.posts.ok)),
    )

pub loop-post-preserved : goal.loop-post-preserved
loop-post-preserved g c =
    let does = c.in_ok-handle.ensures in
    let before = rw c.in-Some.ensures.steps.0 at c.loop-post.invariant in (
      one_going (number_by g.S.Shared.terms) g.S.Shared.key g.S.Shared.reads g.S.Shared.was _ _ c.in-Some.post (into_iter_items c.next.new.self) _ _ _ _ _
          before.0
          (record {
            ready = does.ready;
            same_setup = does.setup;
            same_accounts = does.accounts;
            same_number = does.worker;
            same_numbers = does.numbers;
            was = does.was;
            answered = (holding g.S.Shared.reads.mine c.handle.new.self, does.handled, refl);
          })
          c.push_reserved.ensures.items,
      omega (arith, before.1, c.push_reserved.ensures.len, c.push_reserved.ensures.capacity),
    )

pub push_reserved-requires : goal.push_reserved-requires
push_reserved-requires g c =
    let before = rw c.in-Some.ensures.steps.0 at c.loop-post.invariant in
    omega (arith, before.1)

pub returns-clause-goes_on : goal.returns-clause-goes_on
returns-clause-goes_on g c =
    all_going (number_by g.S.Shared.terms) g.S.Shared.key g.S.Shared.reads g.S.Shared.was _ _ _ _ _ (nil_from_length _ (omega (arith, c.in-None.ensures.steps.0, c.loop-post.post-iterator.rest.ok))) c.loop-post.invariant.0
