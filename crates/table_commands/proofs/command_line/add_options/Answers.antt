use Rattle.std.proofs.Common.{rules}
use Rattle.table_commands.proofs.CommandLemmas.{option_added}
use Rattle.table_commands.proofs.command_line.add_options.Goals as goal

pub loop-option-preserved : goal.loop-option-preserved
loop-option-preserved c =
    (option_added _ _ _ _ _ _ _ c.loop-option-test.true c.in_ok-command.ensures c.arg_of.ensures.local c.arg_of.ensures.rule c.loop-option.invariant.0, search rules)
