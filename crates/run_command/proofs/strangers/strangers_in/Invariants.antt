use Rattle.std.proofs.Common.{◌≡◌, map, take}
use Rattle.run_command.specs.Strangers.{strangers_in}
use Rattle.run_texts.specs.Views.{row_data, with_digits}
use Rattle.run_command.proofs.strangers.strangers_in.Given as goal

-- those in the rows so far
abbrev pub invariant-loop-row : goal.invariant-loop-row
invariant-loop-row l = l.calls.items ≡ strangers_in (with_digits l.setup.subscribers) (map row_data (take l.row-index l.script))
