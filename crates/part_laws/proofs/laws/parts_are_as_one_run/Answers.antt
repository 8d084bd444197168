use Rattle.part_laws.proofs.Joined.{parts_joined}
use Rattle.part_laws.proofs.laws.parts_are_as_one_run.Goals as goal

pub returns : goal.returns
returns c = parts_joined c.books_have_one_text.ensures
