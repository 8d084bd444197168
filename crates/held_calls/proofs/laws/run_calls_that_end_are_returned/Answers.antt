use Rattle.held_calls.proofs.InRuns.{run_left}
use Rattle.held_calls.proofs.laws.run_calls_that_end_are_returned.Goals as goal

pub returns : goal.returns
returns c = run_left c.answers_fit_their_operations.ensures c.run_owed_is_never_refused.ensures c.run_calls_are_of_one_worker.ensures c.calls_of_one_seat_are_alone.ensures
