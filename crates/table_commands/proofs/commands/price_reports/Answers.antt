use Rattle.table_commands.proofs.ReportLemmas.{in_order}
use Rattle.table_commands.proofs.commands.price_reports.Goals as goal

pub print_reports-requires : goal.print_reports-requires
print_reports-requires c = rw c.deref.ensures.value (in_order _ _ _ c.in-Ok.ensures)
