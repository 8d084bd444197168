use Rattle.std.proofs.Common.{arith, sym, ◌∙◌}
use Rattle.std.proofs.lemmas.List.{take_all}
use Rattle.table_commands.proofs.WalkLemmas.{at_start, begins_from, fewer}
use Rattle.table_commands.proofs.explanations.starts.start_behind.Goals as goal

pub loop-at-init : goal.loop-at-init
loop-at-init c = (at_start, omega arith, λ some. omega (arith, some))

pub returns-then-walk-row-clause-begins : goal.returns-then-walk-row-clause-begins
returns-then-walk-row-clause-begins c =
    begins_from c.loop-at.walk.place c.step-place.result c.loop-at.walk.above c.args.row c.loop-at.at c.args.text.now c.loop-at.invariant.0 c.if-walk-row.true c.loop-at-test.true
    c.step-place.ensures (sym c.begins_row.ensures ∙ c.if-begins_row.true)

pub returns-clause-none : goal.returns-clause-none
returns-clause-none c =
    let walked = rw (take_all c.loop-at.at c.args.text.now c.loop-at-test.false) at c.loop-at.invariant.0 in
    fewer c.loop-at.walk.place c.loop-at.walk.above c.args.row c.args.text.now walked c.loop-at.invariant.2
