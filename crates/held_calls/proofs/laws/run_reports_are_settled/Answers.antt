use Rattle.held_calls.proofs.InRuns.{run_settled}
use Rattle.held_calls.proofs.laws.run_reports_are_settled.Goals as goal

pub returns : goal.returns
returns c = run_settled c.run_owed_is_never_refused.ensures c.run_calls_are_of_one_worker.ensures c.calls_of_one_seat_are_alone.ensures
