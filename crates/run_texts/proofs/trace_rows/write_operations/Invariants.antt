use Rattle.std.proofs.Common.{◌≡◌, ◌++◌, map, string_bytes, take}
use Rattle.run_texts.specs.Said.{operation_said}
use Rattle.run_texts.specs.Tables.{service_rows}
use Rattle.run_texts.proofs.trace_rows.write_operations.Given as goal

-- the rows of the operations so far are behind the text
abbrev pub invariant-loop-op : goal.invariant-loop-op
invariant-loop-op l =
    string_bytes l.text ≡ string_bytes l.fn.text ++ service_rows l.head (map operation_said (take l.op-index l.ops))
