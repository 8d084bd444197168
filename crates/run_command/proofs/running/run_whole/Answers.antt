use Rattle.std.proofs.Common.{◌∙◌}
use Rattle.run_command.proofs.ListenLemmas.{text_of_heard}
use Rattle.run_command.proofs.Saying.{events_moved}
use Rattle.run_outputs.specs.Texts.{run_of}
use Rattle.run_command.proofs.running.run_whole.Goals as goal

pub returns-clause-ran : goal.returns-clause-ran
returns-clause-ran g c =
    let played = c.in_ok-played.played in
    let is = c.in_ok-played.ensures.played in
    let run = run_of c.args.setup.now played in
    let ran = c.in_ok-print in
    record {
      workers = c.in_ok-played.ensures.workers;
      given = run.given;
      heard = is.heard;
      given_by = is.given_by;
      books = run.books;
      run = is.run;
      printed = text_of_heard c.args.options.now.output run played.heard.items _ _ is.kept ran.ensures.text;
      refused = ran.ensures.refusals ∙ is.counted;
      unplaced = events_moved played.unplaced.items is.given_by.play.play.unplaced ran.field-0.unplaced.items is.unplaced ran.ensures.unplaced;
      typed = ran.ensures.typed;
    }
