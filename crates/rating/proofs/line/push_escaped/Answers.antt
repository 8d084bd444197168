use Rattle.rating.proofs.LineLemmas.{appended, escaped_plain, escaped_quote}
use Rattle.rating.proofs.line.push_escaped.Goals as goal

pub returns-then-byte-eq34 : goal.returns-then-byte-eq34
returns-then-byte-eq34 c = appended c.extend_from_slice.result _ _ _ _ c.extend_from_slice.ensures.items (escaped_quote c.args.byte c.if-byte-eq34.true)

pub returns-else-byte-eq34 : goal.returns-else-byte-eq34
returns-else-byte-eq34 c = appended c.extend_from_slice-else-byte-eq34.result _ _ _ _ c.extend_from_slice-else-byte-eq34.ensures.items (escaped_plain c.args.byte c.if-byte-eq34.false)
