use Rattle.std.proofs.Common.{◌≡◌, ◌++◌, [], ap, arith, sym, ◌∙◌}
use Rattle.std.specs.Vec.{vec_len}
use Rattle.std.proofs.lemmas.Bool.Decides.{nat_tests}
use Rattle.std.proofs.lemmas.List.{append-nil, nil_from_length}
use Rattle.runs_core.specs.Mails.{items_in}
use Rattle.runs_core.proofs.Mailing.{items_more}
use Rattle.runs_core.specs.Ends.{sent}
use Rattle.runs_core.proofs.worker_link.WorkerLink.send.Goals as goal

pub returns-clause-posts : goal.returns-clause-posts
returns-clause-posts g c = items_more (sent c.args.self.now.outbox) _ c.args.posts c.in_ok-send_mail.ensures.sent

pub returns-then-is_empty-clause-posts : goal.returns-then-is_empty-clause-posts
returns-then-is_empty-clause-posts g c =
    let none : vec_len c.args.posts ≡ 0 = grind (arith, nat_tests, sym c.is_empty.ensures ∙ c.if-is_empty.true) in
    let empty : c.args.posts.items ≡ [] = nil_from_length _ (omega (arith, none, c.args.posts.ok)) in
    sym (ap (λ posts. items_in (sent c.args.self.now.outbox) ++ posts) empty ∙ append-nil (items_in (sent c.args.self.now.outbox)))
