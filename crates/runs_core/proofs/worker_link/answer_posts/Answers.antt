use Rattle.runs_core.proofs.Mailing.{items_more}
use Rattle.runs_core.specs.Ends.{sent}
use Rattle.runs_core.proofs.worker_link.answer_posts.Goals as goal

pub returns-clause-goes_on : goal.returns-clause-goes_on
returns-clause-goes_on g c =
    (c.in_ok-answers.answers.items, items_more (sent c.args.outbox.now) _ c.in_ok-answers.answers c.in_ok-send_mail.ensures.sent, c.in_ok-answers.ensures.goes_on)
