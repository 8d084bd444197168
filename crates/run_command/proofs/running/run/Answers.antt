use Rattle.std.proofs.Common.{◌∙◌, sym}
use Rattle.run_command.proofs.Answering.{parts_answer, whole_answers}
use Rattle.run_values.specs.Options.{ask_of}
use Rattle.run_command.proofs.running.run.Goals as goal

pub returns-in-None : goal.returns-in-None
returns-in-None g c =
    whole_answers (ask_of c.args.options.now) c.args.input.now _ _ c.in_ok-setup.ensures.start (sym c.in-None.is ∙ c.played_parts.ensures)
    c.run_whole.result c.run_whole.ensures.ran c.run_whole.ensures.fault

pub returns : goal.returns
returns g c =
    parts_answer (ask_of c.args.options.now) c.args.input.now _ _ c.in_ok-setup.ensures.start
    c.in-Some.parts (sym c.in-Some.is ∙ c.played_parts.ensures) c.run_in_parts.result c.run_in_parts.ensures.ran c.run_in_parts.ensures.fault
