use Rattle.table_commands.proofs.WordLemmas.{asked_read, refusal_read}
use Rattle.table_commands.proofs.arguments.read_words.Goals as goal

pub returns-in-Err : goal.returns-in-Err
returns-in-Err g c = refusal_read _ _ c.refusal.result c.in-Err.ensures.kinds c.refusal.ensures

pub returns-in-Ok : goal.returns-in-Ok
returns-in-Ok g c = asked_read _ _ c.asked.result c.in-Ok.ensures.kinds c.in-Ok.ensures.command c.asked.ensures
