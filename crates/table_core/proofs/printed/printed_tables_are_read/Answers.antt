use Rattle.table_core.proofs.PrintedLemmas.{tables_read}
use Rattle.table_core.proofs.printed.printed_tables_are_read.Goals as goal

pub returns : goal.returns
returns c = tables_read
