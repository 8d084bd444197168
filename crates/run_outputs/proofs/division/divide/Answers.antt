use Rattle.std.proofs.Common.{◌≡◌, ◌≤◌, true, All}
use Rattle.run_outputs.specs.Parts.{payer_in}
use Rattle.run_outputs.proofs.Orders.{in_order, in_range, of_each}
use Rattle.run_texts.specs.Views.{rows_are_in_order}
use Rattle.run_texts.specs.declared.script.ScriptRow.{ScriptRow}
use Rattle.price_core.specs.declared.times.TheConstants.{MAX_MOMENT}
use Rattle.run_outputs.proofs.division.divide.Goals as goal

pub returns-clause-in_range : goal.returns-clause-in_range
returns-clause-in_range c =
    let Within : ScriptRow → Type 0 = λ row. row.at ≤ MAX_MOMENT in
    λ all. of_each (λ pile. pile.items) (λ rows. All Within rows) c.in_ok-firsts.firsts (payer_in c.in_ok-payers.payers) c.args.script.items c.in_ok-scripts.scripts.items
    (rw (c.as_slice-4.ensures.value) at c.in_ok-scripts.ensures)
    (λ part. in_range Within c.in_ok-firsts.firsts (payer_in c.in_ok-payers.payers) c.args.script.items part all)

pub returns-clause-in_order : goal.returns-clause-in_order
returns-clause-in_order c =
    λ are. of_each (λ pile. pile.items) (λ rows. rows_are_in_order 0 rows ≡ true) c.in_ok-firsts.firsts (payer_in c.in_ok-payers.payers) c.args.script.items c.in_ok-scripts.scripts.items
    (rw (c.as_slice-4.ensures.value) at c.in_ok-scripts.ensures)
    (λ part. in_order c.in_ok-firsts.firsts (payer_in c.in_ok-payers.payers) c.args.script.items part are)
