use Rattle.std.proofs.Common.{[], ap, arith, map, rules, subst, ◌∙◌}
use Rattle.std.proofs.Math.Nat.{le_antisymm}
use Rattle.std.proofs.lemmas.List.{length-map, take_all}
use Rattle.std.specs.Prelude.{replicate}
use Rattle.run_outputs.specs.Parts.{AreParts, payer_in}
use Rattle.run_outputs.proofs.Piles.{laid_next, none_laid, pile_more}
use Rattle.run_outputs.proofs.division.deal.Goals as goal

pub loop-preserved : goal.loop-preserved
loop-preserved c = pile_more (λ pile. pile.items) c.loop.piles.items _ c.new.result c.loop.counter c.in_ok-push.ensures.items c.new.ensures.items c.loop.invariant

pub loop-row-init : goal.loop-row-init
loop-row-init c =
    none_laid c.args.firsts.now (payer_in c.args.payers.now) (map (λ pile. pile.items) c.loop.piles.items)
    (c.loop.invariant ∙ ap (λ n. replicate n []) (le_antisymm c.loop.auto.counter-end c.loop-test.false ∙ c.part_count-end.ensures))

pub index_mut-requires : goal.index_mut-requires
index_mut-requires c =
    omega (arith, c.part_of.ensures.within, c.loop-row.invariant.count, length-map c.loop-row.piles.items (λ pile. pile.items), c.loop-row.piles.ok)

pub loop-row-preserved : goal.loop-row-preserved
loop-row-preserved c =
    laid_next (λ pile. pile.items) c.args.firsts.now (payer_in c.args.payers.now) c.args.script.now c.loop-row.row-index c.row-item.result c.loop-row.piles.items c.part_of.result
    c.index_mut.result.now c.push-in-loop-row.new.self c.loop-row-test.true c.row-item.is c.part_of.ensures.part c.part_of.ensures.within (search rules) c.in_ok-push-2.ensures.items c.loop-row.invariant

pub returns : goal.returns
returns c =
    subst (λ done. AreParts c.args.firsts.now (payer_in c.args.payers.now) done (map (λ pile. pile.items) c.loop-row.piles.items))
    (take_all c.loop-row.row-index c.args.script.now c.loop-row-test.false) c.loop-row.invariant
