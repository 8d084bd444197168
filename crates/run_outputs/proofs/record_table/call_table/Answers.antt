use Rattle.std.proofs.Common.{ap, string_bytes, ◌∙◌}
use Rattle.std.proofs.lemmas.List.{take_all}
use Rattle.run_outputs.proofs.CallLemmas.{added_next}
use Rattle.run_outputs.specs.Tables.{call_header, call_text, record_row}
use Rattle.run_outputs.proofs.record_table.call_table.Goals as goal

pub loop-call-preserved : goal.loop-call-preserved
loop-call-preserved c =
    added_next (record_row c.args.clock) call_header (string_bytes c.loop-call.text) _ c.args.calls.now c.loop-call.call-index c.call-item.result
    c.loop-call-test.true c.call-item.is c.loop-call.invariant c.in_ok-write_record.ensures

pub returns : goal.returns
returns c = c.loop-call.invariant ∙ ap (call_text c.args.clock) (take_all c.loop-call.call-index c.args.calls.now c.loop-call-test.false)
