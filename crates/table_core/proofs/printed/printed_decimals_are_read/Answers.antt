use Rattle.table_core.proofs.PrintedLemmas.{decimals_plain, decimals_read}
use Rattle.table_core.proofs.printed.printed_decimals_are_read.Goals as goal

pub returns-clause-read : goal.returns-clause-read
returns-clause-read c = decimals_read

pub returns-clause-plain : goal.returns-clause-plain
returns-clause-plain c = decimals_plain
