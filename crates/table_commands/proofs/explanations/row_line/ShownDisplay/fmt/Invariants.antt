use Rattle.std.proofs.Common.{◌≡◌, ℕ, List, ◌++◌, drop}
use Rattle.std.specs.Fmt.{HasWritten, IsPlainFormatter}
use Rattle.table_commands.specs.RowLines.{shown_columns}
use Rattle.table_commands.specs.declared.explanations.row_line.TheConstants.{MOST_COLUMNS}
use Rattle.table_commands.proofs.explanations.row_line.ShownDisplay.fmt.Given as goal

-- what was written and what is to be shown of the rest are what is shown of the line
abbrev pub invariant-loop-byte : goal.invariant-loop-byte
invariant-loop-byte g l =
    IsPlainFormatter l.fn.f
    → (done : List ℕ) × HasWritten g.W.Write.write_str_gives l.fn.f done l.f
    × (done ++ shown_columns l.room (drop l.byte-index l.self.0.now) ≡ shown_columns MOST_COLUMNS l.self.0.now)
