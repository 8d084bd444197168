use Rattle.std.proofs.Common.{◌≡◌, ◌++◌, true, [], sym, ap, subst, ◌∙◌}
use Rattle.std.proofs.lemmas.List.{append-nil}
use Rattle.crossbeam_channel.specs.Claims.{view}
use Rattle.runs_core.specs.Ends.{sent, taken}
use Rattle.runs_core.specs.Logs.{ends_at_close}
use Rattle.runs_core.specs.declared.mailboxes.Log.{Log}
use Rattle.runs_core.proofs.Closes.{nothing_waits}
use Rattle.runs_core.proofs.Orders.{rejoins}
use Rattle.runs_core.proofs.mailboxes.compare_ends.Goals as goal

pub absorb-requires-clause-rule : goal.absorb-requires-clause-rule
absorb-requires-clause-rule g c =
    rejoins c.args.outbox.pass.id (view c.args.outbox.pass) c.args.inbox.pass.id (view c.args.inbox.pass) c.args.outbox.may_send c.args.inbox.may_take

pub returns-clause-whole : goal.returns-clause-whole
returns-clause-whole g c = λ closed.
    let all = sent c.args.outbox in
    let first = taken c.args.inbox in
    let both = c.absorb.ensures.rule in
    let waiting = c.learn_as.ensures.rule.0 in
    let order : all ≡ first ++ waiting =
    sym (ap (λ (v : Log g.row.T.Denot). v.sent) both) ∙ c.learn_as.ensures.rule.1.0 ∙ ap (λ (v : Log g.row.T.Denot). v.taken ++ waiting) both in
    let ends : ends_at_close all ≡ true = subst (λ (v : Log g.row.T.Denot). ends_at_close v.sent ≡ true) both c.learn_as.ensures.rule.1.1 in
    let none : waiting ≡ [] = nothing_waits first waiting (subst (λ mails. ends_at_close mails ≡ true) order ends) closed in
    sym (order ∙ ap (λ mails. first ++ mails) none ∙ append-nil first)
