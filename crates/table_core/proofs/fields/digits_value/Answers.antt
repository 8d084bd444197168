use Rattle.table_core.proofs.DecimalLemmas.{value_more}
use Rattle.table_core.proofs.fields.digits_value.Goals as goal

pub loop-byte-preserved : goal.loop-byte-preserved
loop-byte-preserved c =
    rw c.from.ensures (value_more c.args.text.now c.loop-byte.byte-index c.loop-byte.value c.loop-byte-test.true c.requires.digits c.loop-byte.invariant.0 c.loop-byte.invariant.1)
