use Rattle.std.proofs.Common.{ap}
use Rattle.crossbeam_channel.specs.Claims.{view}
use Rattle.runs_core.specs.declared.mailboxes.Log.{Log}
use Rattle.runs_core.proofs.Orders.{begins, parts}
use Rattle.runs_core.proofs.mailboxes.mailbox.Goals as goal

pub bounded_with-requires-clause-rule : goal.bounded_with-requires-clause-rule
bounded_with-requires-clause-rule g c = begins

pub another-taking-requires-clause-rule : goal.another-taking-requires-clause-rule
another-taking-requires-clause-rule g c =
    let first = c.in_ok-sender.ensures.3 in
    parts c.in_ok-sender.sending.id (view c.in_ok-sender.sending) (ap (λ (v : Log g.row.T.Denot). v.sends) first) (ap (λ (v : Log g.row.T.Denot). v.takes) first)
