use Rattle.held_calls.proofs.InBooks.{recharges_in_books}
use Rattle.held_calls.proofs.runs.recharges_are_in_the_books.Goals as goal

pub returns : goal.returns
returns g c = recharges_in_books g.S.Shared.stood c.recharges_are_entered.ensures
