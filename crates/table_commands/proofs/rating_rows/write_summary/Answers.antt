use Rattle.table_core.proofs.FrontLemmas.{some_written}
use Rattle.table_commands.proofs.rating_rows.write_summary.Goals as goal

pub returns-in-Ok : goal.returns-in-Ok
returns-in-Ok g c = rw (c.as_bytes.ensures.value, c.as_str.ensures.value, c.in-Ok.ensures) at (some_written _ _ _ _ c.write_text.ensures)
