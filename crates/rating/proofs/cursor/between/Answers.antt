use Rattle.std.proofs.Common.{◌∙◌}
use Rattle.rating.proofs.PassLemmas.{empty_line, first_byte, line_end, no_line_end}
use Rattle.rating.specs.declared.call.TheConstants.{MAX_SHOWN}
use Rattle.rating.proofs.cursor.between.Goals as goal

pub returns-then-byte-eq10 : goal.returns-then-byte-eq10
returns-then-byte-eq10 c = λ rest. empty_line MAX_SHOWN c.args.byte rest (line_end c.args.byte c.if-byte-eq10.either)

pub returns-else-byte-eq10 : goal.returns-else-byte-eq10
returns-else-byte-eq10 c = λ rest.
    first_byte 131071 c.args.byte MAX_SHOWN rest (no_line_end c.args.byte c.if-byte-eq10.false.0 c.if-byte-eq10.false.1) ∙ c.in_row.ensures rest
