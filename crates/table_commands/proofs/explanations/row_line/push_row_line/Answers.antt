use Rattle.std.proofs.lemmas.List.{take_rest}
use Rattle.table_commands.proofs.explanations.row_line.push_row_line.Goals as goal

pub returns : goal.returns
returns c = rw (c.lines_ended.ensures.value, c.lines_ended-2.ensures.value, take_rest c.args.table.now c.args.at) at c.writeln.ensures.bytes
