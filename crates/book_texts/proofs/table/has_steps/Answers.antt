use Rattle.book_texts.proofs.TextLemmas.{steps_of_entries}
use Rattle.book_texts.proofs.table.has_steps.Goals as goal

pub returns : goal.returns
returns c = rw (c.any_asks_steps.ensures, ← c.history.ensures.value) (steps_of_entries c.history.result.now)
