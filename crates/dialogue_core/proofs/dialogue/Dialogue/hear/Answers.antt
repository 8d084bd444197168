use Rattle.std.proofs.Common.{Ok}
use Rattle.dialogue_core.specs.Rules.{on_reply}
use Rattle.dialogue_core.specs.Views.{phase_of}
use Rattle.dialogue_core.proofs.Asking.{fewer_said, got_by}
use Rattle.dialogue_core.proofs.dialogue.Dialogue.hear.Goals as goal

pub returns-in-Ok-clause-fewer : goal.returns-in-Ok-clause-fewer
returns-in-Ok-clause-fewer c =
    rw c.unwrap_or.ensures
    (fewer_said (phase_of c.args.self.now) (phase_of c.answer.new.self) _ (Ok c.in-Ok.reply)
    (got_by c.args.self.now c.answer.new.self (on_reply (phase_of c.args.self.now) c.in-Ok.reply) c.answer.result c.answer.ensures.ok c.answer.ensures.fault c.answer.ensures.unchanged))
