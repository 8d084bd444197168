use Rattle.std.proofs.Common.{◌+◌, arith}
use Rattle.std.proofs.lemmas.List.{take_all}
use Rattle.std.proofs.KnownBytes.{Appends-kept}
use Rattle.table_core.proofs.FrontLemmas.{more_written, none_written, within_rest}
use Rattle.table_core.proofs.writing.write_text.Goals.{in-Ok, in-Err}
use Rattle.table_core.proofs.writing.write_text.Goals as goal

pub loop-turn-init : goal.loop-turn-init
loop-turn-init g c = (omega arith, none_written (g.W.Write.contents c.args.writer.now) c.args.text.now)

pub returns-then-written-text : goal.returns-then-written-text
returns-then-written-text g c = rw (take_all c.loop-turn.written c.args.text.now (omega (arith, c.if-written-text.true))) at c.loop-turn.invariant.1

pub returns-in-Ok-eq0 : goal.returns-in-Ok-eq0
returns-in-Ok-eq0 g c = (
  c.loop-turn.written + c.in-Ok-eq0.field-0,
  more_written _ _ _ c.args.text.now c.loop-turn.written c.in-Ok-eq0.field-0 c.loop-turn.invariant.1 (rw c.in-Ok-eq0.is at c.write.ensures.bytes),
)

pub returns-in-Err-2 : goal.returns-in-Err-2
returns-in-Err-2 g c = (c.loop-turn.written, Appends-kept _ _ _ _ c.loop-turn.invariant.1 c.in-Err-2.ensures.bytes)

pub loop-turn-preserved : goal.loop-turn-preserved
loop-turn-preserved g c = elim c.match-write.branch [
  | in-Ok w ↦ rw w.written-is (within_rest c.args.text.now c.loop-turn.written w.in-Ok.count c.loop-turn.invariant.0 w.in-Ok.ensures.bound, more_written _ _ _ c.args.text.now c.loop-turn.written w.in-Ok.count c.loop-turn.invariant.1 w.in-Ok.ensures.bytes)
  | in-Err w ↦ rw w.written-is (c.loop-turn.invariant.0, Appends-kept _ _ _ _ c.loop-turn.invariant.1 w.in-Err.ensures.bytes)
]

pub returns : goal.returns
returns g c = (c.loop-turn.written, c.loop-turn.invariant.1)
