use Rattle.std.proofs.Common.{map, refl, ap, ◌∙◌}
use Rattle.std.proofs.lemmas.List.{map-append}
use Rattle.runs_core.specs.Ends.{sent, taken}
use Rattle.runs_core.specs.Handled.{answer_view}
use Rattle.runs_core.specs.Workers.{number_by}
use Rattle.runs_core.specs.Mails.{items_in}
use Rattle.runs_core.proofs.WorkerLemmas.{goes_none, goes_more}
use Rattle.runs_core.proofs.Mailing.{closes, items_closed, items_more}
use Rattle.runs_core.proofs.worker_link.answer_rounds.Goals as goal

pub loop-init : goal.loop-init
loop-init g c =
    rw (c.requires.taken, c.requires.sent) (refl, refl, goes_none (number_by g.S.Shared.terms) g.S.Shared.key g.S.Shared.reads g.S.Shared.was c.args.worker.now c.requires.ready)

pub loop-preserved : goal.loop-preserved
loop-preserved g c =
    let before = c.loop.invariant in
    let does = c.in_ok-answer_posts-in-Ok-Work.ensures.goes_on in
    let posts = items_more (taken c.loop.inbox) _ c.in-Ok-Work.posts (rw c.in-Ok-Work.field-0-is at c.in-Ok-Work.ensures.taken) in
    let answers = ap (map answer_view) does.1 ∙ map-append answer_view (items_in (sent c.loop.outbox)) does.0 in
    (c.take_mail.ensures.same ∙ before.0, c.answer_posts.ensures.outbox ∙ before.1, rw (posts, answers) (goes_more (number_by g.S.Shared.terms) g.S.Shared.key g.S.Shared.reads g.S.Shared.was c.args.worker.now _ _ _ _ c.loop.worker _ before.2 does.2))

pub returns-in-Ok-Close-clause-goes_on : goal.returns-in-Ok-Close-clause-goes_on
returns-in-Ok-Close-clause-goes_on g c = rw (items_closed (taken c.loop.inbox) _ (rw c.in-Ok-Close.field-0-is at c.in-Ok-Close.ensures.taken)) c.loop.invariant.2

pub returns-in-Ok-Close-clause-closed : goal.returns-in-Ok-Close-clause-closed
returns-in-Ok-Close-clause-closed g c = rw (rw c.in-Ok-Close.field-0-is at c.in-Ok-Close.ensures.taken) (closes (taken c.loop.inbox))

pub returns-in_err-answer_posts-in-Ok-Work-clause-inbox : goal.returns-in_err-answer_posts-in-Ok-Work-clause-inbox
returns-in_err-answer_posts-in-Ok-Work-clause-inbox g c = c.take_mail.ensures.same ∙ c.loop.invariant.0

pub returns-in_err-answer_posts-in-Ok-Work-clause-outbox : goal.returns-in_err-answer_posts-in-Ok-Work-clause-outbox
returns-in_err-answer_posts-in-Ok-Work-clause-outbox g c = c.answer_posts.ensures.outbox ∙ c.loop.invariant.1

pub returns-in-Ok-Close-clause-inbox : goal.returns-in-Ok-Close-clause-inbox
returns-in-Ok-Close-clause-inbox g c = c.take_mail.ensures.same ∙ c.loop.invariant.0

pub returns-in-Ok-Close-clause-outbox : goal.returns-in-Ok-Close-clause-outbox
returns-in-Ok-Close-clause-outbox g c = c.loop.invariant.1

pub returns-in-Err-clause-inbox : goal.returns-in-Err-clause-inbox
returns-in-Err-clause-inbox g c = c.take_mail.ensures.same ∙ c.loop.invariant.0

pub returns-in-Err-clause-outbox : goal.returns-in-Err-clause-outbox
returns-in-Err-clause-outbox g c = c.loop.invariant.1
