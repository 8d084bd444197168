use Rattle.run_command.proofs.Parting.{kept_part}
use Rattle.run_values.specs.Options.{ask_of}
use Rattle.run_command.proofs.parts.play_part.Goals as goal

pub returns-clause-part : goal.returns-clause-part
returns-clause-part g c =
    kept_part (ask_of c.args.options.now) c.args.setup.now c.args.firsts.now c.args.number c.args.script.items c.in_ok-played.played _ c.in_ok-played.ensures.workers c.in_ok-played.ensures.played
    c.in_ok-keep.ensures
