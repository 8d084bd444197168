use Rattle.std.proofs.Common.{◌≡◌, arith, length, map, rules, subst}
use Rattle.std.specs.Vec.Iter.{into_iter_items}
use Rattle.runs_core.proofs.Finishing.{all_finished, none_finished, one_failed, one_finished}
use Rattle.runs_core.specs.Sending.{AreLeftBy}
use Rattle.runs_core.proofs.threads.finish_all.Goals as goal

pub loop-link-init : goal.loop-link-init
loop-link-init g c =
    none_finished _ _ _ _ c.args.links.items _ (map (λ team. team.items) c.args.left.now.items) c.into_iter-links.ensures.rest

pub loop-link-preserved-in-Err : goal.loop-link-preserved-in-Err
loop-link-preserved-in-Err g c =
    rw (c.or-fault.ensures)
    (one_failed _ _ _ _ c.args.links.items (into_iter_items c.next.new.self) (map (λ team. team.items) c.args.left.now.items) (map (λ team. team.items) c.loop-link.left.items) (map (λ team. team.items) c.finish.new.left.items) c.loop-link.fault c.in-Some.link c.in-Err.why
    (rw c.in-Some.ensures.items at c.loop-link.invariant) (search rules) (search rules))

pub loop-link-preserved : goal.loop-link-preserved
loop-link-preserved g c =
    let left = c.in_default-finish.ensures.left in
    one_finished _ _ _ _ c.args.links.items (into_iter_items c.next.new.self) (map (λ team. team.items) c.args.left.now.items) (map (λ team. team.items) c.loop-link.left.items) (map (λ team. team.items) c.finish.new.left.items) c.loop-link.fault c.in-Some.link left.0
    (rw c.in-Some.ensures.items at c.loop-link.invariant) left.1 left.2

pub returns-in-None-clause-left : goal.returns-in-None-clause-left
returns-in-None-clause-left g c =
    let none : length (into_iter_items c.loop-link.links) ≡ 0 = omega (arith, c.in_default.ensures.cases.0, c.loop-link.links.rest.ok) in
    let by = c.loop-link.invariant.left_by c.in-None.is in
    (by.0, by.1, subst (λ links. AreLeftBy g.S.Shared.reads g.S.Shared.key g.S.Shared.was links by.0) (all_finished _ _ _ _ _ _ _ _ _ none c.loop-link.invariant) by.2)

pub returns-in-Some-fault-clause-fault : goal.returns-in-Some-fault-clause-fault
returns-in-Some-fault-clause-fault g c = (λ closed. c.loop-link.invariant.shut (cc), λ is. c.loop-link.invariant.workers (cc))
