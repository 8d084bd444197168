-- What a run prints, and an answer of the code.
use Rattle.std.specs.Prelude.{true, [], string_bytes}
use Rattle.run_outputs.specs.Texts.{RunSaid, TablesSaid}
use Rattle.table_commands.specs.Printouts.{Printout}
use Rattle.run_outputs.specs.Lists.{unplaced_line}
use Rattle.run_outputs.specs.RefusedLines.{refused_line}
use Rattle.prepaid.specs.declared.answer.Answer.{Answer}

-- what a run says
abbrev pub printout_of_run : RunSaid → Printout
printout_of_run ran = record { text = ran.text; passes = true; refused = refused_line ran.refusals; unplaced = unplaced_line ran.unplaced }

-- what a run says whose lines and tables went into files
abbrev pub printout_of_files : TablesSaid → Printout
printout_of_files tables = record { text = []; passes = true; refused = refused_line tables.refusals; unplaced = unplaced_line tables.unplaced }

-- what an answer of the code says
abbrev pub printout_of : Answer → Printout
printout_of answer =
    record { text = string_bytes answer.text; passes = answer.passes; refused = refused_line answer.refusals; unplaced = unplaced_line answer.unplaced.items }
