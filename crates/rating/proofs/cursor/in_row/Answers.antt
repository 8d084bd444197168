use Rattle.rating.proofs.PassLemmas.{byte_cuts, byte_passes, quote_passes, row_ends}
use Rattle.rating.specs.Cuts.{cut_from, cut_state_of}
use Rattle.rating.specs.declared.call.TheConstants.{MAX_SHOWN}
use Rattle.std.proofs.Common.{None, Some, ap, sym, ◌∙◌, ◌++◌}
use Rattle.rating.proofs.cursor.in_row.Goals as goal

pub returns-in-EndsRow : goal.returns-in-EndsRow
returns-in-EndsRow c = λ rest. row_ends MAX_SHOWN (cut_state_of c.args.within) (Some c.args.room) c.args.byte rest (rw c.in-EndsRow.is at c.step.ensures)

pub returns-in-Skips : goal.returns-in-Skips
returns-in-Skips c = λ rest. quote_passes MAX_SHOWN (cut_state_of c.args.within) c.args.room c.args.byte _ rest (rw c.in-Skips.is at c.step.ensures)

pub returns-in-Adds : goal.returns-in-Adds
returns-in-Adds c = λ rest. byte_passes MAX_SHOWN (cut_state_of c.args.within) c.args.room c.args.byte _ rest c.if-room-gt0.true (rw c.in-Adds.is at c.step.ensures)

pub returns-in-Adds-2 : goal.returns-in-Adds-2
returns-in-Adds-2 c = λ rest.
    byte_cuts MAX_SHOWN (cut_state_of c.args.within) c.args.room c.args.byte c.in-Adds.to rest c.if-room-gt0.false (rw c.in-Adds.is at c.step.ensures)
    ∙ ap (λ l. l ++ cut_from MAX_SHOWN (cut_state_of c.in-Adds.to) None rest) (sym c.closing.ensures)
