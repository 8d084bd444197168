use Rattle.std.proofs.Common.{◌≡◌, length}
use Rattle.run_outputs.proofs.division.weights_in.Given as goal

abbrev pub invariant-loop : goal.invariant-loop
invariant-loop l = length l.weights.items ≡ l.counter

abbrev pub invariant-loop-row : goal.invariant-loop-row
invariant-loop-row l = length l.weights.items ≡ length l.setup.accounts
