use Rattle.std.proofs.lemmas.List.{take_rest}
use Rattle.table_commands.proofs.MarkLemmas.{behind_mark, fewer_behind}
use Rattle.table_commands.proofs.explanations.starts.row_start.Goals as goal

pub returns-in-Some-clause-begins : goal.returns-in-Some-clause-begins
returns-in-Some-clause-begins c =
    let begins = rw (take_rest c.args.text.now c.mark_length-mark.result) at c.in-Some.ensures.begins in
    behind_mark c.mark_length-mark.result c.args.row c.in-Some.at c.args.text.now c.mark_length-mark.ensures.marks begins

pub returns-in-None-clause-none : goal.returns-in-None-clause-none
returns-in-None-clause-none c =
    let few = rw (take_rest c.args.text.now c.mark_length-mark.result) at c.in-None.ensures.none in
    fewer_behind c.mark_length-mark.result c.args.row 0 c.args.text.now c.mark_length-mark.ensures.marks few
