use Rattle.book_texts.proofs.audit.take_row.Goals as goal

pub returns-in-Ok-Entry-clause-noted : goal.returns-in-Ok-Entry-clause-noted
returns-in-Ok-Entry-clause-noted c = rw (← c.in-Ok-Entry.ensures.says, c.in-Ok-Entry.field-0-is) c.hear_entry.ensures.noted
