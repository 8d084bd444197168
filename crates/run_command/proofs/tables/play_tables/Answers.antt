use Rattle.run_command.proofs.Tabling.{tables_of_play}
use Rattle.run_values.specs.Options.{ask_of}
use Rattle.run_command.proofs.tables.play_tables.Goals as goal

pub returns-clause-tables : goal.returns-clause-tables
returns-clause-tables g c =
    let played = c.in_ok-played in
    let printed = c.in_ok-print_all.ensures in
    tables_of_play (ask_of c.args.options.now) (ask_of c.traced.result) c.clock_of-clock.result c.args.setup.now c.args.script.items played.played _ c.traced.ensures c.clock_of-clock.ensures
    played.ensures.workers played.ensures.played printed.texts printed.refusals printed.unplaced printed.typed
