use Rattle.std.proofs.Common.{sym, ◌∙◌}
use Rattle.run_values.proofs.Listing.{account_of-entries}
use Rattle.run_values.proofs.setup.RunSetup.account_of.Goals as goal

pub returns : goal.returns
returns c = rw (← c.self.view_is) (c.copied.ensures ∙ c.get.ensures.value ∙ sym (account_of-entries c.self.inside.subscribers.entries c.args.calling))
