use Rattle.std.proofs.Common.{string_bytes}
use Rattle.live_answers.proofs.ServeLemmas.{both_printed, divider_cut, table_cut}
use Rattle.live_answers.proofs.serving.print_end.Goals as goal

pub returns-in_err-send-clause-cut : goal.returns-in_err-send-clause-cut
returns-in_err-send-clause-cut g c =
    divider_cut _ _ _ _ _ (string_bytes c.in-Some.table) c.from_residual-in_err-send.result c.in_err-send.field-0.0 c.from_residual-in_err-send.ensures.1
    (rw c.as_slice.ensures at c.in_err-send.ensures.cut) (rw c.in-Some.is at c.in_ok-table.ensures)

pub returns-clause-cut : goal.returns-clause-cut
returns-clause-cut g c =
    table_cut _ _ _ _ _ _ (string_bytes c.in-Some.table) c.send-2.result (rw c.as_slice.ensures at c.in_ok-send.ensures.wrote)
    (rw c.as_bytes.ensures.value at c.send-2.ensures.cut) (rw c.in-Some.is at c.in_ok-table.ensures)

pub returns-clause-prints : goal.returns-clause-prints
returns-clause-prints g c =
    both_printed _ _ _ _ _ _ (string_bytes c.in-Some.table) c.send-2.result (rw c.as_slice.ensures at c.in_ok-send.ensures.wrote)
    (rw c.as_bytes.ensures.value at c.send-2.ensures.wrote) (rw c.in-Some.is at c.in_ok-table.ensures)
