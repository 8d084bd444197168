use Rattle.std.proofs.Common.{◌∙◌, None, refl, sym, arith}
use Rattle.csv.specs.Records.{fields_of}
use Rattle.table_core.specs.Rows.{rows_of}
use Rattle.table_core.specs.Tables.{headers_of}
use Rattle.table_core.proofs.HeaderLemmas.{header_there, which_is, width_of_header}
use Rattle.table_core.proofs.Known.{if_known, at_known}
use Rattle.table_core.proofs.TableLemmas.{opens_at, opens_none}
use Rattle.table_core.proofs.table.Table.open.Goals as goal

pub returns-in_err-header-clause-opens : goal.returns-in_err-header-clause-opens
returns-in_err-header-clause-opens g c = if_known _ _ (λ text known.
    let has = at_known _ _ text known c.new-rows.ensures in
    let (rest, rows, left) = rw c.if-not-branch.false at c.in_ok-next_row.ensures.takes (rows_of text) has in
    let which = which_is c.args.headers.now (fields_of c.row.result.now) ∙ sym c.which_header.ensures in
    opens_none g.R.Read.remaining (headers_of c.args.headers.now) c.from_residual-in_err-header.result c.in_err-header.field-0.0 (rows_of text) rest
    (fields_of c.next_row.new.self.row) c.which_header.result c.from_residual-in_err-header.ensures.1 rows (rw c.row.ensures at which)
    (sym c.ok_or.ensures.value ∙ c.in_err-header.was))

pub returns-clause-opens : goal.returns-clause-opens
returns-clause-opens g c = if_known (g.R.Read.remaining c.args.reader) _ (λ text known.
    let has = at_known _ _ text known c.new-rows.ensures in
    let (rest, rows, left) = rw c.if-not-branch.false at c.in_ok-next_row.ensures.takes (rows_of text) has in
    let found = rw c.in_ok-header.was at c.ok_or.ensures.ok_part in
    let which = which_is c.args.headers.now (fields_of c.row.result.now) ∙ sym c.which_header.ensures ∙ found in
    opens_at g.R.Read.remaining (headers_of c.args.headers.now) (record { rows = c.next_row.new.self; header = c.in_ok-header.header; width = c.len.result; most_rows = c.args.most_rows; number = 1; fault = None; within = omega arith; counted = c.requires }) (rows_of text) rest (fields_of c.next_row.new.self.row) rows (rw c.row.ensures at which)
    (rw c.row-2.ensures at c.len.ensures) refl left)

pub returns-clause-first : goal.returns-clause-first
returns-clause-first g c =
    let found = rw c.in_ok-header.was at c.ok_or.ensures.ok_part in
    let which = which_is c.args.headers.now (fields_of c.row.result.now) ∙ sym c.which_header.ensures ∙ found in
    record {
      most_rows = refl;
      number = refl;
      header = header_there (headers_of c.args.headers.now) (fields_of c.row.result.now) c.in_ok-header.header which;
      width = c.len.ensures ∙ rw (c.row-2.ensures, ← c.row.ensures) (width_of_header (headers_of c.args.headers.now) _ _ which);
    }
