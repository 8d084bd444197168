use Rattle.std.proofs.Common.{◌≡◌, ℕ, take}
use Rattle.std.specs.BTreeMap.{is_at}
use Rattle.std.specs.Map.{lookup}
use Rattle.std.specs.Ordering.{nat_cmp}
use Rattle.std.specs.Option.{option_map}
use Rattle.account_core.specs.Sums.{sum_in}
use Rattle.run_outputs.proofs.accounts.paid_in.Given as goal

-- what the calls of the sums so far have paid
abbrev pub invariant-loop-sum : goal.invariant-loop-sum
invariant-loop-sum l = (call : ℕ) → lookup (is_at (nat_cmp call)) l.paid ≡ option_map (λ sum. sum.paid) (sum_in call (take l.sum-index l.sums))
