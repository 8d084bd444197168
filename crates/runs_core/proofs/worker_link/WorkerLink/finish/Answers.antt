use Rattle.std.proofs.Common.{◌≡◌, ◌++◌, ◌∷◌, [], ap, map, subst, ◌∙◌}
use Rattle.std.proofs.lemmas.List.{map-append}
use Rattle.runs_core.specs.Ends.{sent, taken}
use Rattle.runs_core.specs.Handled.{answer_view}
use Rattle.runs_core.specs.Mails.{items_in}
use Rattle.runs_core.specs.Teams.{IsLeft}
use Rattle.runs_core.proofs.Mailing.{items_closed, same_items}
use Rattle.runs_core.proofs.worker_link.WorkerLink.finish.Goals as goal

pub returns-in_ok-reserve-in-Ok-clause-left : goal.returns-in_ok-reserve-in-Ok-clause-left
returns-in_ok-reserve-in-Ok-clause-left g c =
    let promise = c.args.self.child.promise in
    let ended = c.in-Ok.finished in
    let heard = items_closed (taken c.args.self.inbox) (sent ended.outbox) c.in_ok-compare_all-in-Ok.ensures.answers in
    let all = c.compare_all.ensures.posts c.in-Ok.ensures.0.2 in
    let posts : items_in (taken ended.inbox) ≡ items_in (sent c.args.self.outbox) = ap items_in all ∙ same_items c.send_mail.result _ _ c.send_mail.ensures.sent in
    let Its = IsLeft g.S.Shared.reads g.S.Shared.was (map g.S.Shared.key promise.accounts.now) promise.setup.now promise.number in (
      ended.seats.items,
      ap (map (λ team. team.items)) (c.push_reserved.ensures.items ∙ ap (λ teams. teams ++ ended.seats ∷ []) c.in_ok-reserve-in-Ok.ensures.items) ∙ map-append (λ team. team.items) c.args.left.now.items (ended.seats ∷ []),
      subst (λ answer. Its (items_in (sent c.args.self.outbox)) (map answer_view answer) ended.seats.items) heard
          (subst (λ given. Its given (map answer_view (items_in (sent ended.outbox))) ended.seats.items) posts c.in-Ok.ensures.0.3),
    )
