use Rattle.std.proofs.Common.{rules, ap}
use Rattle.turn_account.proofs.MeetLemmas.{hears, notes}
use Rattle.turn_account.proofs.turn.hear.Goals as goal

pub split_seat-note-requires : goal.split_seat-note-requires
split_seat-note-requires c = (c.requires.first, c.requires.words, notes _ _ _)

pub join_seat-requires : goal.join_seat-requires
join_seat-requires c = (search rules, search rules, search rules, search rules, hears _ _ _ _ _ (ap (λ m. m.0.stage) c.split_seat-note.ensures.4))
