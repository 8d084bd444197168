use Rattle.table_core.proofs.FrontLemmas.{some_written}
use Rattle.table_commands.proofs.WriteLemmas.{line_said, none_said, unasked}
use Rattle.table_commands.proofs.error_lines.report_output.Goals as goal

pub returns-in_default : goal.returns-in_default
returns-in_default g c = none_said c.args.explains _

pub returns-then-not-explains : goal.returns-then-not-explains
returns-then-not-explains g c = unasked c.args.explains _ c.if-not-explains.true

pub returns-in-Ok : goal.returns-in-Ok
returns-in-Ok g c =
    let line = c.in-Ok.line.bytes in
    let wrote = rw (c.as_bytes.ensures.value, c.as_str.ensures.value) at c.write_text.ensures in
    line_said c.args.explains _ _ line c.if-not-explains.false c.in-Ok.ensures
    (some_written _ _ line c.write_text.result wrote)
