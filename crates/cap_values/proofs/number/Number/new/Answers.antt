use Rattle.std.proofs.Common.{sym}
use Rattle.cap_values.proofs.NumberLemmas.{number-front, short, zeros-behind}
use Rattle.cap_values.proofs.number.Number.new.Goals as goal

pub invariant_of-result-clause-short : goal.invariant_of-result-clause-short
invariant_of-result-clause-short c = short c.as_bytes-bytes.result.now (sym c.if-not-is_number.ensures)

pub invariant_of-result-clause-in_range : goal.invariant_of-result-clause-in_range
invariant_of-result-clause-in_range c =
    number-front c.as_bytes-bytes.result.now c.copy_from_slice.new.self _ c.copy_from_slice.ensures.after (sym c.if-not-is_number.ensures)

pub invariant_of-result-clause-zeros_behind : goal.invariant_of-result-clause-zeros_behind
invariant_of-result-clause-zeros_behind c =
    zeros-behind c.as_bytes-bytes.result.now c.copy_from_slice.new.self (short c.as_bytes-bytes.result.now (sym c.if-not-is_number.ensures)) c.copy_from_slice.ensures.after
