use Rattle.part_laws.proofs.OneText.{one_text}
use Rattle.part_laws.proofs.laws.books_have_one_text.Goals as goal

pub returns : goal.returns
returns c = one_text
