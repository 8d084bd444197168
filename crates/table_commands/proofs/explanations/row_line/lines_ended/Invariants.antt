use Rattle.std.proofs.Common.{◌≡◌, ◌≤◌, take}
use Rattle.std.specs.Prelude.{◌==◌}
use Rattle.std.specs.List.{count_by}
use Rattle.table_commands.proofs.explanations.row_line.lines_ended.Given as goal

-- so many lines have ended
abbrev pub invariant-loop-byte : goal.invariant-loop-byte
invariant-loop-byte l = (l.ended ≡ count_by (λ byte. byte == 10) (take l.byte-index l.text)) × (l.ended ≤ l.byte-index)
