use Rattle.std.specs.Prelude.{◌≡◌, ◌+◌, [], IfSome, List, length}
use Rattle.table_core.specs.Reading.{room_of, row_number_of}
use Rattle.table_core.specs.Rows.{Fields}
use Rattle.table_core.specs.Tables.{headers_of, table_form}
use Rattle.table_core.proofs.TableLemmas.{IsRead}
use Rattle.table_core.proofs.TakingLemmas.{AreAbove}
use Rattle.table_core.proofs.taking.take_table.Given as goal

-- what was made of the rows so far goes with what was read of the table
abbrev pub invariant-loop-table : goal.invariant-loop-table
invariant-loop-table g l =
    (terms : g.T.TakeRow.Terms) (start : g.T.TakeRow.Made) → g.T.TakeRow.Has terms l.fn.taker [] start → (made : g.T.TakeRow.Made)
    × IsRead (table_form (headers_of l.fn.headers) l.fn.most_rows start (g.T.TakeRow.judge terms)) g.I.Read.remaining (g.I.Read.remaining l.fn.reader) l.table made
    × (rows : List Fields) × IfSome (g.I.Read.remaining l.fn.reader) (AreAbove g.I.Read.remaining l.table rows) × g.T.TakeRow.Has terms l.taker rows made
    × (length rows + 1 ≡ row_number_of l.table)

-- a row past the last one that a table may have is refused
abbrev pub decreases-loop-table : goal.decreases-loop-table
decreases-loop-table g l = room_of l.table
