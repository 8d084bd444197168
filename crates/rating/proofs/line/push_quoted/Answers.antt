use Rattle.std.proofs.Common.{refl}
use Rattle.rating.proofs.LineLemmas.{appended_last, escaped_next}
use Rattle.rating.proofs.line.push_quoted.Goals as goal

pub loop-byte-preserved : goal.loop-byte-preserved
loop-byte-preserved c =
    rw c.in_ok-push_escaped.ensures (escaped_next c.args.field.now c.loop-byte.byte-index _ c.loop-byte.text.items _ c.loop-byte-test.true refl c.loop-byte.invariant)

pub returns : goal.returns
returns c = appended_last c.args.field.now c.loop-byte.byte-index c.extend_from_slice-2.result _ c.loop-byte.text.items c.args.text.now.items c.extend_from_slice-2.ensures.items c.loop-byte-test.false c.loop-byte.invariant
