use Rattle.part_laws.proofs.Lines.{lines_alike}
use Rattle.part_laws.proofs.laws.lines_have_no_numbers.Goals as goal

pub returns : goal.returns
returns c = lines_alike c.books_have_one_text.ensures
