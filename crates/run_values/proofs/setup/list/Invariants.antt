use Rattle.std.proofs.Common.{◌≡◌, []}
use Rattle.run_values.proofs.Listing.{AreAllListed, AreListed, account_items, subscriber_items}
use Rattle.run_values.proofs.setup.list.Given as goal

-- the accounts so far, and no subscriber
abbrev pub invariant-loop-account : goal.invariant-loop-account
invariant-loop-account l = AreListed account_items l.accounts l.account-index l.directory.accounts × (l.directory.subscribers ≡ [])

-- all accounts, and the subscribers so far
abbrev pub invariant-loop-subscriber : goal.invariant-loop-subscriber
invariant-loop-subscriber l =
    AreAllListed account_items l.accounts l.directory.accounts × AreListed (subscriber_items l.accounts) l.subscribers l.subscriber-index l.directory.subscribers
