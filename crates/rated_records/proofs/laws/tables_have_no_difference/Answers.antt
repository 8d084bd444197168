use Rattle.rated_records.proofs.Tables.{tables_rated}
use Rattle.rated_records.proofs.Unprinted.{unprinted}
use Rattle.rated_records.proofs.laws.tables_have_no_difference.Goals as goal

pub returns : goal.returns
returns g c = record {
  rated = tables_rated g.S.Shared.stood c.printed_decimals_are_read.ensures.read c.printed_decimals_are_read.ensures.plain c.printed_moments_are_read.ensures.read
      c.printed_moments_are_read.ensures.plain c.printed_tables_are_read.ensures c.records_have_no_difference.ensures c.records_are_in_range.ensures
      c.read_tariffs_are_proper.ensures;
  unprinted = unprinted;
}
