use Rattle.std.proofs.Common.{◌≡◌, true}
use Rattle.run_values.proofs.Listing.{values_entries}
use Rattle.run_values.specs.Openings.{opening_is_in_range}
use Rattle.run_values.proofs.directory.Directory.into_parts.Goals as goal

pub returns-clause-range : goal.returns-clause-range
returns-clause-range c =
    rw c.in_ok-ascending.ensures.items (values_entries (λ opening. opening_is_in_range opening ≡ true) c.self.inside.accounts.entries c.self.invariant)
