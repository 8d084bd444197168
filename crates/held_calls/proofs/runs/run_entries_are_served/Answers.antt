use Rattle.held_calls.proofs.InBooks.{entries_served}
use Rattle.held_calls.proofs.runs.run_entries_are_served.Goals as goal

pub returns : goal.returns
returns g c = entries_served g.S.Shared.stood c.entries_come_from_posts.ensures
