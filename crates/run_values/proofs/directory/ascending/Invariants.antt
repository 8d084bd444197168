use Rattle.std.proofs.Common.{◌≡◌, ◌++◌}
use Rattle.run_values.proofs.directory.ascending.Given as goal

abbrev pub invariant-loop-number : goal.invariant-loop-number
invariant-loop-number l = l.ascending.items ++ l.number-iterator ≡ l.accounts.entries
