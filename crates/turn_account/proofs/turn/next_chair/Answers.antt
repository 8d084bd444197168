use Rattle.turn_account.proofs.Seating.{numbers}
use Rattle.turn_account.proofs.turn.next_chair.Goals as goal

pub split_seat-requires : goal.split_seat-requires
split_seat-requires c = (c.requires.table, c.requires.words, numbers _ _ _ c.requires.idle c.requires.number c.requires.few)
