use Rattle.std.proofs.Common.{◌≡◌, false, take}
use Rattle.clap.specs.Words.{app_of}
use Rattle.clap.specs.declared.builder.command.Command.TheViews.{out-Command as fields_of}
use Rattle.table_commands.specs.Commands.{with_options}
use Rattle.table_commands.proofs.command_line.add_options.Given as goal

abbrev pub invariant-loop-option : goal.invariant-loop-option
invariant-loop-option l = (app_of l.command ≡ with_options (app_of l.fn.command) (take l.option-index l.options)) × ((fields_of l.command).has_globals ≡ false)
