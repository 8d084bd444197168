use Rattle.std.proofs.Common.{refl}
use Rattle.run_values.proofs.Listing.{account_of-entries, opening_of-entries}
use Rattle.run_values.proofs.directory.Directory.subscriber.Goals as goal

pub returns-then-contains_key-clause-fault : goal.returns-then-contains_key-clause-fault
returns-then-contains_key-clause-fault c = λ other.
    rw (← c.self.view_is, account_of-entries c.self.inside.subscribers.entries c.args.number, ← c.contains_key.ensures, c.if-contains_key.true) refl

pub returns-then-not-contains_key-clause-fault : goal.returns-then-not-contains_key-clause-fault
returns-then-not-contains_key-clause-fault c = λ other.
    rw (
      ← c.self.view_is,
      account_of-entries c.self.inside.subscribers.entries c.args.number,
      ← c.contains_key.ensures,
      c.if-contains_key.false,
      opening_of-entries c.self.inside.accounts.entries c.args.account,
      ← c.contains_key-2.ensures,
      c.if-not-contains_key.true,
    ) refl

pub returns-clause-made : goal.returns-clause-made
returns-clause-made c =
    rw (
      ← c.self.view_is,
      account_of-entries c.self.inside.subscribers.entries c.args.number,
      ← c.contains_key.ensures,
      c.if-contains_key.false,
      opening_of-entries c.self.inside.accounts.entries c.args.account,
      ← c.contains_key-2.ensures,
      c.if-not-contains_key.false,
    ) refl
