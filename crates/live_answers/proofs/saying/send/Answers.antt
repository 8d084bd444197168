use Rattle.live_answers.proofs.Growing.{flushed}
use Rattle.live_answers.proofs.saying.send.Goals as goal

pub returns-then-write_text : goal.returns-then-write_text
returns-then-write_text g c = flushed _ _ _ c.args.text.now c.is_ok.result (c.if-write_text.ensures) c.flush.ensures.bytes
