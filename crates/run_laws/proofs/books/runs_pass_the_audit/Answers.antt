use Rattle.run_laws.proofs.Printing.{all_few, all_pass, auditable, few_rows, have_accounts, pass, printable}
use Rattle.run_laws.proofs.books.runs_pass_the_audit.Goals as goal

pub returns : goal.returns
returns g c =
    let serves = c.run_entries_are_served.ensures in
    let reserves = c.reserves_are_in_the_books.ensures in
    let ranges = c.entries_are_in_range.ensures in
    let passes = all_pass c.printed_books_are_read.ensures.read c.printed_books_are_read.ensures.pass c.printed_books_are_read.ensures.lines in
    record {
      printable = printable g.S.Shared.stood serves reserves ranges;
      pass = pass g.S.Shared.stood serves reserves ranges passes;
      few = few_rows g.S.Shared.stood serves reserves ranges;
      auditable = auditable g.S.Shared.stood serves reserves ranges;
      accounts = have_accounts g.S.Shared.stood;
      pass_alone = passes;
      few_alone = all_few;
    }
