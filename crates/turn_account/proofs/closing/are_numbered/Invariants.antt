use Rattle.std.proofs.Common.{◌≡◌, drop, map}
use Rattle.account_core.specs.Seats.{are_numbered}
use Rattle.turn_account.proofs.closing.are_numbered.Given as goal

abbrev pub invariant-loop-at : goal.invariant-loop-at
invariant-loop-at l =
    are_numbered 0 (map (λ seat. seat.number) l.seats) ≡ are_numbered l.at (map (λ seat. seat.number) (drop l.at l.seats))
