use Rattle.std.proofs.Common.{◌∷◌, ◌++◌, [], ap, refl, sym, ◌∙◌}
use Rattle.csv.specs.Records.{fields_of}
use Rattle.price_core.specs.Times.{no_times}
use Rattle.table_commands.specs.Reports.{report_row_in}
use Rattle.table_commands.proofs.ReportLemmas.{last_more}
use Rattle.table_commands.proofs.reports.ReportsTakeRow.take.Goals as goal

pub returns : goal.returns
returns c = λ plan rows read (same, are, last).
    let times = c.in_ok-times.times in
    let fields = fields_of c.args.row.now in
    let says = c.in_ok-times.ensures ∙ ap (λ rates. report_row_in rates c.args.self.now.last fields) same ∙ ap (λ times. report_row_in plan times fields) last in
    (read ++ times ∷ [], rw (← says) refl, (same, c.in_ok-push.ensures.items ∙ ap (λ earlier. earlier ++ times ∷ []) are, sym (last_more no_times read times)))
