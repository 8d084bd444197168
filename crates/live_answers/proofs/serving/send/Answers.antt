use Rattle.std.proofs.Common.{false, refl}
use Rattle.live_answers.proofs.Growing.{flushed}
use Rattle.live_answers.proofs.serving.send.Goals.{else-write_text-via-then-write_text+else-is_ok, else-write_text-via-else-write_text}
use Rattle.live_answers.proofs.serving.send.Goals as goal

pub returns-else-write_text-clause-cut : goal.returns-else-write_text-clause-cut
returns-else-write_text-clause-cut g c = elim c.else-write_text.branch [
  | else-write_text-via-then-write_text+else-is_ok w ↦ rw w.output-is (refl, flushed _ _ _ c.args.text.now false w.if-write_text.ensures w.flush.ensures.bytes)
  | else-write_text-via-else-write_text w ↦ rw w.output-is (refl, w.if-write_text.ensures)
]
