use Rattle.std.proofs.Common.{◌≡◌, string_bytes, take}
use Rattle.run_texts.specs.Tables.{trace_text}
use Rattle.run_texts.proofs.trace.trace_table.Given as goal

-- the trace of the items so far
abbrev pub invariant-loop-number : goal.invariant-loop-number
invariant-loop-number l = string_bytes l.text ≡ trace_text l.clock (take l.number l.given) l.answers
