use Rattle.std.proofs.Common.{[], map}
use Rattle.runs_core.specs.Ends.{sent, taken}
use Rattle.runs_core.specs.Handled.{answer_view}
use Rattle.runs_core.specs.Workers.{number_by}
use Rattle.runs_core.specs.Mails.{items_in}
use Rattle.runs_core.proofs.WorkerLemmas.{answered_more, begins, left_by}
use Rattle.runs_core.proofs.Mailing.{same_items}
use Rattle.runs_core.proofs.worker_link.serve_posts.Goals as goal

pub returns-clause-left : goal.returns-clause-left
returns-clause-left g c =
    let read = g.S.Shared.reads in
    let was = g.S.Shared.was in
    let made = c.new-worker.ensures in
    let posts = items_in (taken c.answer_rounds.new.inbox) in
    let answer = map answer_view (items_in (sent c.answer_rounds.new.outbox)) in
    let first = begins (number_by g.S.Shared.terms) g.S.Shared.key read was c.args.setup.now c.args.accounts.now c.args.number c.args.seats.items c.new-worker.result
    c.requires.numbered c.requires.fresh made.ready made.setup made.accounts made.number made.seats made.talks in
    let has = answered_more (number_by g.S.Shared.terms) g.S.Shared.key read was c.args.setup.now c.args.accounts.now c.args.number [] posts [] answer c.new-worker.result c.answer_rounds.new.worker
    first c.in_ok-answer_rounds.ensures.goes_on in
    rw (c.finish.ensures, same_items c.send_mail.result _ _ c.send_mail.ensures.sent)
    (left_by (number_by g.S.Shared.terms) g.S.Shared.key read was c.args.setup.now c.args.accounts.now c.args.number posts answer c.answer_rounds.new.worker has)
