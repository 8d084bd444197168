use Rattle.std.proofs.Common.{append-nil, refl, sym, ◌∙◌}
use Rattle.run_outputs.proofs.ListedAccounts.{by_its_digits}
use Rattle.run_command.proofs.strangers.add_stranger.Goals as goal

pub returns-in_ok-push : goal.returns-in_ok-push
returns-in_ok-push c =
    let found = c.account_of.ensures ∙ by_its_digits c.in-Start.calling c.args.setup.now.subscribers in
    c.in_ok-push.ensures.items ∙ rw (c.in-Start.is, ← found, c.if-is_none.ensures) refl

pub returns-else-is_none : goal.returns-else-is_none
returns-else-is_none c =
    let found = c.account_of.ensures ∙ by_its_digits c.in-Start.calling c.args.setup.now.subscribers in
    rw (c.in-Start.is, ← found, c.if-is_none.ensures) (sym (append-nil c.args.calls.now.items))
