use Rattle.std.proofs.Common.{◌≡◌, take, map}
use Rattle.std.specs.Prelude.{All}
use Rattle.account_core.specs.Entries.{entry_data}
use Rattle.account_core.specs.Own.{own}
use Rattle.locked_account.proofs.closing.have_own.Given as goal

abbrev pub invariant-loop-seat : goal.invariant-loop-seat
invariant-loop-seat l = All (λ seat. own seat.number (map entry_data l.history) ≡ seat.mine) (take l.seat-index l.seats)
