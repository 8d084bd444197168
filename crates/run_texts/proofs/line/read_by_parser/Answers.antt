use Rattle.std.proofs.Common.{Some, refl, ap}
use Rattle.table_core.specs.Rows.{rows_of}
use Rattle.run_texts.proofs.line.read_by_parser.Goals as goal

pub returns-then-not-branch-clause-says : goal.returns-then-not-branch-clause-says
returns-then-not-branch-clause-says c =
    let none = rw c.if-not-branch.true at c.in_ok-next_row.ensures.takes (rows_of c.args.line.now) c.new-rows.ensures in
    rw none refl

pub returns-then-branch-clause-says : goal.returns-then-branch-clause-says
returns-then-branch-clause-says c =
    let (rest, rows, left) = rw c.if-not-branch.false at c.in_ok-next_row.ensures.takes (rows_of c.args.line.now) c.new-rows.ensures in
    let (others, more, _) = rw c.if-branch.true at c.in_ok-next_row-2.ensures.takes rest left in
    rw (rows, more) refl

pub returns-clause-says : goal.returns-clause-says
returns-clause-says c =
    let (rest, rows, left) = rw c.if-not-branch.false at c.in_ok-next_row.ensures.takes (rows_of c.args.line.now) c.new-rows.ensures in
    let none = rw c.if-branch.false at c.in_ok-next_row-2.ensures.takes rest left in
    rw (rows, none) (ap Some (rw c.row.ensures at c.read_row-read.ensures.says))
