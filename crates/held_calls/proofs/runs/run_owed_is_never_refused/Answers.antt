use Rattle.held_calls.proofs.Alone.{owed_never}
use Rattle.held_calls.proofs.runs.run_owed_is_never_refused.Goals as goal

pub returns : goal.returns
returns c = owed_never c.entries_come_from_posts.ensures c.calls_of_one_seat_are_alone.ensures
