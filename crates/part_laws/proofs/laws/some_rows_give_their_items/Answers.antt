use Rattle.part_laws.proofs.OwnRows.{rows_give_theirs}
use Rattle.part_laws.proofs.RoundsBeside.{ends_followed, rounds_followed}
use Rattle.part_laws.proofs.laws.some_rows_give_their_items.Goals as goal

pub returns : goal.returns
returns c = rows_give_theirs (rounds_followed c.timers_run_one_way.ensures) ends_followed
