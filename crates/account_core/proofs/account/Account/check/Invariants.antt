use Rattle.account_core.specs.Checked.{IsCheckOf}
use Rattle.account_core.proofs.Walking.{past_to}
use Rattle.account_core.proofs.account.Account.check.Given as goal

abbrev pub invariant-loop-entry : goal.invariant-loop-entry
invariant-loop-entry l = IsCheckOf l.opening l.fn.until (past_to l.entries l.entry-index) l.check
