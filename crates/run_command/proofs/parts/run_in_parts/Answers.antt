use Rattle.run_command.proofs.Parting.{in_parts}
use Rattle.run_values.specs.Options.{ask_of}
use Rattle.run_command.proofs.parts.run_in_parts.Goals as goal

pub returns-clause-ran : goal.returns-clause-ran
returns-clause-ran g c =
    in_parts c.args.asked.count (ask_of c.args.options.now) c.args.setup.now c.args.script.items _ _ c.in_ok-parts.parts.items _ c.in_ok-firsts.ensures.count c.in_ok-firsts.ensures.parts
    c.in_ok-parts.ensures.parts c.in_ok-print_parts.ensures
