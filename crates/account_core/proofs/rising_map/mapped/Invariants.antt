use Rattle.std.proofs.Common.{◌≡◌, ◌++◌, drop}
use Rattle.account_core.proofs.rising_map.mapped.Given as goal

-- the map so far, and what is left of the list
abbrev pub invariant-loop-listed : goal.invariant-loop-listed
invariant-loop-listed g l = l.map.entries ++ drop l.listed-index l.list ≡ l.list
