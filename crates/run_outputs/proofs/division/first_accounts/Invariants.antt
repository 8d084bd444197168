use Rattle.std.proofs.Common.{◌≤◌, ◌+◌, ◌-◌, length}
use Rattle.run_outputs.proofs.Beginnings.{AreBegun}
use Rattle.run_outputs.proofs.division.first_accounts.Given as goal

-- a part is left for each account that is needed, and those that begin parts rise
abbrev pub invariant-loop-place : goal.invariant-loop-place
invariant-loop-place l =
    (1 + length l.firsts.items ≤ l.count) × (l.count ≤ 1 + length l.firsts.items + (length l.weights - l.place)) × AreBegun l.setup.accounts l.place l.firsts.items
