use Rattle.std.proofs.Common.{◌≡◌, take}
use Rattle.clap.specs.Words.{app_of}
use Rattle.table_commands.specs.Commands.{with_commands}
use Rattle.table_commands.proofs.command_line.add_commands.Given as goal

abbrev pub invariant-loop-words : goal.invariant-loop-words
invariant-loop-words l = app_of l.program ≡ with_commands (app_of l.fn.program) (take l.words-index l.commands)
