use Rattle.held_calls.proofs.InRuns.{run_returned}
use Rattle.held_calls.proofs.laws.run_calls_are_returned.Goals as goal

pub returns : goal.returns
returns c = run_returned c.run_owed_is_never_refused.ensures c.run_calls_are_of_one_worker.ensures c.calls_of_one_seat_are_alone.ensures
