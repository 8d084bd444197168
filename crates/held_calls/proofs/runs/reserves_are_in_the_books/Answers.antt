use Rattle.held_calls.proofs.InBooks.{reserves_in_books}
use Rattle.held_calls.proofs.runs.reserves_are_in_the_books.Goals as goal

pub returns : goal.returns
returns g c = reserves_in_books g.S.Shared.stood c.reserves_are_on_terms.ensures
