use Rattle.std.proofs.Common.{[], Ok, ap, refl, sym}
use Rattle.price_core.specs.RatesOf.{rates_of}
use Rattle.table_core.proofs.TakingLemmas.{refused_gives, taken_gives}
use Rattle.table_commands.proofs.ReportLemmas.{none_reported}
use Rattle.table_commands.proofs.reports.read_reports.Goals as goal

pub take_table-requires-clause-has : goal.take_table-requires-clause-has
take_table-requires-clause-has g c = (rates_of c.args.plan.now, [], none_reported (rates_of c.args.plan.now) _ c.new.ensures.items)

pub returns-in_err-take_table : goal.returns-in_err-take_table
returns-in_err-take_table g c =
    refused_gives (g.I.Read.remaining c.args.reader) _ (rates_of c.args.plan.now) [] _ (λ reports. reports) (λ reports. reports.items) (none_reported (rates_of c.args.plan.now) _ c.new.ensures.items) (λ why. refl)
    _ c.in_err-take_table.field-0.0 c.from_residual.ensures.1 c.in_err-take_table.ensures.taken

pub returns : goal.returns
returns g c =
    taken_gives (g.I.Read.remaining c.args.reader) _ (rates_of c.args.plan.now) [] _ (λ reports. reports) (λ reports. reports.items) (none_reported (rates_of c.args.plan.now) _ c.new.ensures.items)
    c.take_table.new.taker.times _ (λ text reports (same, are, last). ap Ok (sym are)) c.in_ok-take_table.ensures.taken
