use Rattle.std.proofs.Common.{◌++◌}
use Rattle.std.proofs.lemmas.Result.{on_ok_weaker}
use Rattle.cap_values.specs.Orders.{operations_in}
use Rattle.dialogue_core.specs.Views.{phase_of}
use Rattle.one_call.specs.Deliveries.{queued_in}
use Rattle.one_call.proofs.Hearing.{sent_rests}
use Rattle.one_call.proofs.hear.hear_one.Goals as goal

pub returns-in-Msg-clause-kept : goal.returns-in-Msg-clause-kept
returns-in-Msg-clause-kept g c = λ call now meter after handed rest sends.
    c.hear-instructions.ensures.kept call now meter after (handed ++ queued_in c.args.deliveries.now.items) rest (rw c.in-Msg.is at sends)

pub returns-in-Msg-clause-sent : goal.returns-in-Msg-clause-sent
returns-in-Msg-clause-sent g c =
    on_ok_weaker c.send.result (λ is. (operations_in c.hear-instructions.result, is)) c.send.ensures.sent

pub returns-in-Msg-clause-rests : goal.returns-in-Msg-clause-rests
returns-in-Msg-clause-rests g c = λ call now meter after handed rest sends.
    on_ok_weaker c.send.result (λ is. sent_rests call c.args.due c.args.to after handed c.args.deliveries.now.items c.send.new.deliveries.items (operations_in c.hear-instructions.result)
    (g.P.Port.state c.hear-instructions.new.port call) (phase_of c.hear-instructions.new.dialogue) is
    (c.hear-instructions.ensures.rests call now meter after (handed ++ queued_in c.args.deliveries.now.items) rest (rw c.in-Msg.is at sends)))
    c.send.ensures.sent
