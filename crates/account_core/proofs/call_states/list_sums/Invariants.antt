use Rattle.std.proofs.Common.{◌≡◌, ◌++◌, drop}
use Rattle.account_core.specs.Sums.{sums_known}
use Rattle.account_core.proofs.call_states.list_sums.Given as goal

abbrev pub invariant-loop-call : goal.invariant-loop-call
invariant-loop-call l = l.sums.items ++ sums_known (drop l.call-index l.calls) ≡ sums_known l.calls
