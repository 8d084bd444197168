use Rattle.std.proofs.Common.{◌∙◌, [], rules, sym, ap, subst, subst₂}
use Rattle.std.specs.Prelude.{IfSome}
use Rattle.live_answers.proofs.Chain.{answered, writes_on}
use Rattle.live_answers.proofs.answering.answer_live.Goals as goal
use Rattle.live_answers.specs.Live.{heard_in}
use Rattle.live_answers.specs.Runs.{AnswersLines}
use Rattle.runs_core.specs.Hearing.{all_heard}
use Rattle.table_core.proofs.Known.{if_known}

pub returns-clause-answered : goal.returns-clause-answered
returns-clause-answered g c =
    let remaining = g.I.Read.remaining in
    let contents = g.O.Write.contents in
    let logged = g.L.Write.contents in
    let made = c.new-driver.ensures in
    let ran = c.in_ok-books.ensures.run in
    let driver = c.serve.new.driver in
    let on = writes_on remaining contents logged [] _ ran.heard driver ran.rounds in
    let to_output = sym (on.output ∙ made.same_output) in
    let to_log = sym (on.log ∙ made.same_log) in
    record {
      answers = all_heard ran.heard;
      run = ran.run;
      lines =
          subst₂ (λ o l. IfSome (remaining c.args.input) (λ text.
          AnswersLines c.args.replay c.fault.result (heard_in text) (all_heard ran.heard) driver.given.items (contents c.args.output.now) (contents o) (logged c.args.log.now) (logged l)))
          (search rules) (search rules)
          (if_known (remaining c.args.input) _ (λ text known.
          let done = answered remaining contents logged c.args.replay _ ran.heard driver text ran.rounds made.replay made.given made.line made.said made.stage (ap remaining made.input ∙ known) in
          let from_there = rw (made.output, made.log) at done in
          subst (λ why. AnswersLines c.args.replay why (heard_in text) (all_heard ran.heard) driver.given.items (contents c.args.output.now) (contents driver.output.now) (logged c.args.log.now)
          (logged driver.log.now))
          (sym c.fault.ensures) from_there));
    }
