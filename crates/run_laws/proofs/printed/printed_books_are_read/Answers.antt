use Rattle.run_laws.proofs.ReadBooks.{books_have_lines, books_pass, books_read}
use Rattle.run_laws.proofs.printed.printed_books_are_read.Goals as goal

pub returns : goal.returns
returns c = record {
  read = books_read c.printed_decimals_are_read.ensures.read c.operations_are_read.ensures c.replies_are_read.ensures
      c.printed_decimals_are_read.ensures.plain c.printed_tables_are_read.ensures;
  lines = books_have_lines c.printed_decimals_are_read.ensures.read c.operations_are_read.ensures c.replies_are_read.ensures
      c.printed_decimals_are_read.ensures.plain c.printed_tables_are_read.ensures;
  pass = books_pass c.printed_decimals_are_read.ensures.read c.operations_are_read.ensures c.replies_are_read.ensures
      c.printed_decimals_are_read.ensures.plain c.printed_tables_are_read.ensures;
}
