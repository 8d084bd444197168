use Rattle.std.proofs.Common.{◌≡◌, string_bytes, take}
use Rattle.run_outputs.specs.Tables.{call_text}
use Rattle.run_outputs.proofs.record_table.call_table.Given as goal

-- the table of the calls so far
abbrev pub invariant-loop-call : goal.invariant-loop-call
invariant-loop-call l = string_bytes l.text ≡ call_text l.clock (take l.call-index l.calls)
