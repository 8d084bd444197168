use Rattle.std.proofs.Common.{rules, arith, sym, ◌∙◌}
use Rattle.std.proofs.lemmas.List.{length-map}
use Rattle.std.specs.Vec.Iter.{into_iter_items}
use Rattle.runs_core.proofs.LayingOut.{none_laid_out, has_pile, one_laid_out}
use Rattle.runs_core.proofs.opened.deal.Goals as goal

pub loop-item-init : goal.loop-item-init
loop-item-init g c = none_laid_out _ _ _ c.into_iter-item-iterator.ensures.into_iter_gives.0

pub index_mut-requires : goal.index_mut-requires
index_mut-requires g c =
    let below = has_pile (λ pile. pile.items) _ _ c.in-Some.item (into_iter_items c.next.new.self) _ _ (c.requires ∙ sym (length-map c.args.piles.now.items (λ pile. pile.items)))
    (rw c.in-Some.ensures.steps.0 at c.loop-item.invariant) in
    omega (arith, below, c.loop-item.piles.ok)

pub overflow_add-at : goal.overflow_add-at
overflow_add-at g c =
    let below = has_pile (λ pile. pile.items) _ _ c.in-Some.item (into_iter_items c.next.new.self) _ _ (c.requires ∙ sym (length-map c.args.piles.now.items (λ pile. pile.items)))
    (rw c.in-Some.ensures.steps.0 at c.loop-item.invariant) in
    omega (arith, below, c.loop-item.piles.ok)

pub loop-item-preserved : goal.loop-item-preserved
loop-item-preserved g c =
    one_laid_out (λ pile. pile.items) _ _ c.in-Some.item (into_iter_items c.next.new.self) _ _ c.index_mut.result.now c.push.new.self
    (c.requires ∙ sym (length-map c.args.piles.now.items (λ pile. pile.items))) (rw c.in-Some.ensures.steps.0 at c.loop-item.invariant)
    (search rules) c.in_ok-push.ensures.items
