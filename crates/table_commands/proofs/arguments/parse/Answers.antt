use Rattle.clap.specs.Words.{app_of}
use Rattle.table_commands.proofs.WordLemmas.{command_parsed, kinds_parsed}
use Rattle.table_commands.proofs.arguments.parse.Goals as goal

pub returns : goal.returns
returns g c =
    let app = app_of c.in_ok-program_command.field-0 in
    record {
      command = command_parsed app _ _ c.in_ok-program_command.ensures.app c.try_get_matches_from.ensures.matches;
      kinds = kinds_parsed app _ _ c.in_ok-program_command.ensures.app c.try_get_matches_from.ensures.kinds;
    }
