use Rattle.std.proofs.Common.{arith}
use Rattle.table_core.proofs.TakingLemmas.{all_taken, none_made, none_opened, one_made, reading_stopped, row_refused}
use Rattle.table_core.proofs.taking.take_table.Goals as goal

pub returns-in_err-table-clause-taken : goal.returns-in_err-table-clause-taken
returns-in_err-table-clause-taken g c = none_opened _ _ g.T.TakeRow.judge g.I.Read.remaining _ _ (λ terms. g.T.TakeRow.Has terms c.args.taker.now) _ c.in_err-table.field-0.0 c.from_residual.ensures.1 c.in_err-table.ensures.opens

pub loop-table-init : goal.loop-table-init
loop-table-init g c = none_made _ _ _ _ _ _ _ c.in_ok-table.table c.in_ok-table.ensures.first c.in_ok-table.ensures.opens (λ terms start had. had)

pub returns-in_err-next_row-clause-taken : goal.returns-in_err-next_row-clause-taken
returns-in_err-next_row-clause-taken g c =
    reading_stopped _ _ _ _ _ _ (λ terms. g.T.TakeRow.Has terms c.loop-table.taker) _ c.loop-table.table c.next_row.new.self c.loop-table.invariant _ c.in_err-next_row.field-0.0 c.from_residual-in_err-next_row.ensures.1 c.in_err-next_row.ensures.steps

pub take-requires : goal.take-requires
take-requires g c =
    let (terms, start, had) = c.requires.has in
    let (made, read, rows, above, has, count) = c.loop-table.invariant terms start had in
    (terms, rows, made, has)

pub loop-table-preserved : goal.loop-table-preserved
loop-table-preserved g c =
    let next = rw c.if-branch.true at c.in_ok-next_row.ensures.moves in
    one_made _ _ _ _ _ _ _ _ c.loop-table.table c.next_row.new.self c.loop-table.invariant next (rw c.if-branch.true at c.in_ok-next_row.ensures.steps)
    (λ terms rows made has. rw (c.row.ensures, c.header.ensures, next.same.header) at (c.in-Ok.ensures terms rows made has))

pub returns-in-Err-Row-clause-taken : goal.returns-in-Err-Row-clause-taken
returns-in-Err-Row-clause-taken g c =
    let next = rw c.if-branch.true at c.in_ok-next_row.ensures.moves in
    rw c.fault.ensures (row_refused _ _ _ _ _ _ _ c.loop-table.table c.next_row.new.self c.in-Err-Row.kind c.loop-table.invariant next (rw c.if-branch.true at c.in_ok-next_row.ensures.steps)
    (λ terms rows made has. rw (c.row.ensures, c.header.ensures, next.same.header, c.in-Err-Row.field-0-is) at (c.in-Err-Row.ensures terms rows made has)))

pub returns-clause-taken : goal.returns-clause-taken
returns-clause-taken g c =
    all_taken _ _ _ _ _ _ _ c.loop-table.table c.next_row.new.self c.loop-table.invariant (tt {0}) (rw c.if-branch.false at c.in_ok-next_row.ensures.steps)

pub returns-clause-has : goal.returns-clause-has
returns-clause-has g c = λ terms start had.
    let (made, read, rows, above, has, count) = c.loop-table.invariant terms start had in
    (rows, made, has, omega (arith, count, read.most_rows, c.loop-table.table.within))
