use Rattle.std.proofs.Common.{rules, arith}
use Rattle.std.proofs.lemmas.List.{nil_from_length}
use Rattle.run_outputs.proofs.Joins.{all_joined, joined_next, keeps_nothing, none_joined}
use Rattle.run_outputs.proofs.part.join.Goals as goal

pub loop-part-init : goal.loop-part-init
loop-part-init c = none_joined _ _ _ (search rules) (λ output. record {
  books = keeps_nothing output _ _ (search rules) (search rules);
  calls = search rules;
  refusals = search rules;
  unplaced = search rules;
})

pub loop-part-preserved : goal.loop-part-preserved
loop-part-preserved c = joined_next _ _ _ _ _ c.in_ok-add.ensures (rw c.in-Some.ensures.steps.0 at c.loop-part.invariant)

pub returns : goal.returns
returns c =
    let none = c.in-None.ensures.steps.0 in
    let len = c.loop-part.part-iterator.rest.ok in
    all_joined _ _ _ (nil_from_length _ (omega (arith, none, len))) c.loop-part.invariant
