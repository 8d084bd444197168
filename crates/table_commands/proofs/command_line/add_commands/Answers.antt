use Rattle.table_commands.proofs.CommandLemmas.{command_added}
use Rattle.table_commands.proofs.command_line.add_commands.Goals as goal

pub loop-words-preserved : goal.loop-words-preserved
loop-words-preserved c =
    command_added _ _ _ _ _ _ _ c.loop-words-test.true c.in_ok-program.ensures c.in_ok-command.ensures.local c.in_ok-command.ensures.app c.loop-words.invariant
