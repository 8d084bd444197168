use Rattle.turn_account.proofs.Seeing.{one_seat_is_alone}
use Rattle.turn_account.proofs.laws.calls_of_one_seat_are_alone.Goals as goal

pub returns : goal.returns
returns c = one_seat_is_alone
