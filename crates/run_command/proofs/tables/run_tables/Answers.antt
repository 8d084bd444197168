use Rattle.run_command.proofs.Answering.{tables_answer}
use Rattle.run_values.specs.Options.{ask_of}
use Rattle.run_command.proofs.tables.run_tables.Goals as goal

pub returns : goal.returns
returns g c =
    tables_answer (ask_of c.args.options.now) c.args.input.now _ _ c.in_ok-setup.ensures.start c.play_tables.result
    c.play_tables.ensures.tables c.play_tables.ensures.fault
