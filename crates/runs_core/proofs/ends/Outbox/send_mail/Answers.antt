use Rattle.std.proofs.Common.{◌≡◌, false, ap, sym, ◌∙◌}
use Rattle.crossbeam_channel.specs.Claims.{view}
use Rattle.crossbeam_channel.specs.Ends.{ruled_capacity, sends_on}
use Rattle.runs_core.specs.Logs.{has_close}
use Rattle.runs_core.specs.declared.mailboxes.Log.{Log}
use Rattle.runs_core.proofs.Closes.{closed_by}
use Rattle.runs_core.proofs.Orders.{sends}
use Rattle.runs_core.proofs.ends.Outbox.send_mail.Goals as goal

pub send_as-requires-clause-rule : goal.send_as-requires-clause-rule
send_as-requires-clause-rule g c =
    let outbox = c.args.self.now in
    let answer = outbox.closed_is in
    let open_yet = c.if-self.false in
    let none : has_close (view outbox.pass).sent ≡ false = cc in
    (sends (ruled_capacity (sends_on outbox.sender)) outbox.pass.id (view outbox.pass) c.args.mail outbox.may_send none, λ items views rule here. tt)

pub invariant_of-self : goal.invariant_of-self
invariant_of-self g c =
    let outbox = c.args.self.now in
    let before : Log g.row.T.Denot = view outbox.pass in
    let answer = outbox.closed_is in
    let open_yet = c.if-self.false in
    let none : has_close before.sent ≡ false = cc in
    let grown = c.in-Ok.ensures.rule in
    record {
      seated = c.in-Ok.ensures.channel.0;
      may_send = ap (λ (v : Log g.row.T.Denot). v.sends) grown ∙ outbox.may_send;
      closed_is = ap (λ (v : Log g.row.T.Denot). has_close v.sent) grown ∙ closed_by before.sent c.args.mail none ∙ sym c.is_close-last.ensures;
    }
