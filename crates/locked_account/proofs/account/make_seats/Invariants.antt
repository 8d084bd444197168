use Rattle.std.proofs.Common.{◌≡◌}
use Rattle.locked_account.specs.Seats.{fresh_seats}
use Rattle.locked_account.proofs.account.make_seats.Given as goal

abbrev pub invariant-loop-number : goal.invariant-loop-number
invariant-loop-number l = l.made.items ≡ fresh_seats l.account l.number
