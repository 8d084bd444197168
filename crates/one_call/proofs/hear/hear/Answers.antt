use Rattle.std.proofs.Common.{ap, ◌∙◌}
use Rattle.dialogue_core.specs.Views.{phase_of, says_of}
use Rattle.one_call.specs.declared.counts.Counts.{Counts}
use Rattle.one_call.proofs.Counting.{message_counts}
use Rattle.one_call.proofs.Hearing.{heard, unheard}
use Rattle.one_call.proofs.hear.hear.Goals as goal

pub returns-in-Ok-clause-kept : goal.returns-in-Ok-clause-kept
returns-in-Ok-clause-kept g c = λ call now meter after queued rest sends.
    c.converse.ensures.kept call after queued
    (heard call c.args.counts.now.messages c.args.at now meter after queued (g.P.Port.state c.args.port.now call) (phase_of c.args.dialogue.now) (phase_of c.take.new.self) (says_of c.in-Ok.turn)
    c.args.message c.in-Ok.ensures.ok rest sends)
    ∙ (ap (λ (t : Counts). t.forfeits) c.with_message.ensures ∙ message_counts c.args.counts.now c.args.message)

pub returns-in-Ok-clause-rests : goal.returns-in-Ok-clause-rests
returns-in-Ok-clause-rests g c = λ call now meter after queued rest sends.
    c.converse.ensures.rests call after queued
    (heard call c.args.counts.now.messages c.args.at now meter after queued (g.P.Port.state c.args.port.now call) (phase_of c.args.dialogue.now) (phase_of c.take.new.self) (says_of c.in-Ok.turn)
    c.args.message c.in-Ok.ensures.ok rest sends)

pub returns-in-Err-clause-rests : goal.returns-in-Err-clause-rests
returns-in-Err-clause-rests g c = λ call now meter after queued rest sends.
    unheard call c.args.counts.now.messages c.args.at now meter after queued (g.P.Port.state c.args.port.now call) (phase_of c.args.dialogue.now) (phase_of c.take.new.self) c.args.message
    c.in-Err.field-0 c.in-Err.ensures.fault (ap phase_of c.in-Err.ensures.unchanged) rest sends
