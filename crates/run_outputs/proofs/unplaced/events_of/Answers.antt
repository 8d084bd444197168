use Rattle.std.proofs.Common.{[], ap, ◌∙◌}
use Rattle.std.proofs.lemmas.List.{take_all}
use Rattle.run_outputs.proofs.CallLemmas.{added_next}
use Rattle.run_outputs.specs.Unplaced.{event_in_row, events_in_rows}
use Rattle.run_texts.specs.declared.script.ScriptRow.{ScriptRow}
use Rattle.run_outputs.proofs.unplaced.events_of.Goals as goal

pub loop-row-preserved : goal.loop-row-preserved
loop-row-preserved c =
    added_next (λ (row : ScriptRow). event_in_row row.at row.what) [] c.loop-row.events.items c.add_event.new.events.items c.args.rows.now c.loop-row.row-index c.row-item.result
    c.loop-row-test.true c.row-item.is c.loop-row.invariant c.in_ok-add_event.ensures

pub returns : goal.returns
returns c = c.loop-row.invariant ∙ ap events_in_rows (take_all c.loop-row.row-index c.args.rows.now c.loop-row-test.false)
