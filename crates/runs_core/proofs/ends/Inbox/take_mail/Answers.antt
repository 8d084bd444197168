use Rattle.crossbeam_channel.specs.Claims.{view}
use Rattle.runs_core.proofs.Orders.{takes}
use Rattle.runs_core.proofs.ends.Inbox.take_mail.Goals as goal

pub recv_as-requires-clause-rule : goal.recv_as-requires-clause-rule
recv_as-requires-clause-rule g c = (takes c.args.self.now.pass.id (view c.args.self.now.pass) c.args.self.now.may_take, λ items views rule here. tt)
