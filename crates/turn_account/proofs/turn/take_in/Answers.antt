use Rattle.turn_account.proofs.Seating.{takes_in}
use Rattle.turn_account.proofs.turn.take_in.Goals as goal

pub join_seat-requires : goal.join_seat-requires
join_seat-requires c = (
  c.requires.table,
  c.requires.next,
  c.requires.hands,
  c.requires.words,
  takes_in _ _ _ _ _ c.requires.idle c.requires.next_idle c.requires.number,
)
