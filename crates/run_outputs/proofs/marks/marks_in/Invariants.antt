use Rattle.std.proofs.Common.{map, reverse, take}
use Rattle.account_core.specs.Entries.{entry_data}
use Rattle.run_outputs.specs.KeptRecords.{HaveMarks}
use Rattle.run_outputs.proofs.marks.marks_in.Given as goal

-- the marks of the entries so far
abbrev pub invariant-loop-entry : goal.invariant-loop-entry
invariant-loop-entry l = HaveMarks l.marks (reverse (map entry_data (take l.entry-index l.history)))
