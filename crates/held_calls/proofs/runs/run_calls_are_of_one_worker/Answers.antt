use Rattle.held_calls.proofs.Alone.{calls_of_one}
use Rattle.held_calls.proofs.runs.run_calls_are_of_one_worker.Goals as goal

pub returns : goal.returns
returns g c = calls_of_one g.S.Shared.stood c.entries_come_from_posts.ensures
