use Rattle.std.proofs.Common.{sym, ◌∙◌}
use Rattle.table_commands.proofs.MarkLemmas.{marked, short_unmarked, unmarked}
use Rattle.table_commands.proofs.explanations.starts.mark_length.Goals.{else-text-ge3-via-then-text-ge3+else-is_mark, else-text-ge3-via-else-text-ge3}
use Rattle.table_commands.proofs.explanations.starts.mark_length.Goals as goal

pub returns-then-is_mark-clause-marks : goal.returns-then-is_mark-clause-marks
returns-then-is_mark-clause-marks c = marked c.args.text.now c.if-text-ge3.true (sym c.if-is_mark.ensures)

pub returns-else-text-ge3-clause-marks : goal.returns-else-text-ge3-clause-marks
returns-else-text-ge3-clause-marks c =
    elim c.else-text-ge3.branch [
      | else-text-ge3-via-then-text-ge3+else-is_mark w ↦ unmarked c.args.text.now w.if-text-ge3.true (sym w.is_mark.ensures ∙ w.if-is_mark.false)
      | else-text-ge3-via-else-text-ge3 w ↦ short_unmarked c.args.text.now w.if-text-ge3.false
    ]
