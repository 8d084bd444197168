use Rattle.std.proofs.Common.{◌≡◌, ◌++◌}
use Rattle.account_core.specs.Sums.{sums_known}
use Rattle.account_core.proofs.call_states.map_sums.Given as goal

abbrev pub invariant-loop-call : goal.invariant-loop-call
invariant-loop-call l = l.sums.items ++ sums_known l.call-iterator ≡ sums_known l.calls.entries
