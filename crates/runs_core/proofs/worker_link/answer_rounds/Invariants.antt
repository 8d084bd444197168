use Rattle.std.proofs.Common.{map}
use Rattle.runs_core.specs.Ends.{IsSameInbox, IsSameOutbox, sent, taken}
use Rattle.runs_core.specs.Handled.{answer_view}
use Rattle.runs_core.specs.Workers.{number_by}
use Rattle.runs_core.specs.Goings.{GoesOn}
use Rattle.runs_core.specs.Mails.{items_in}
use Rattle.runs_core.proofs.worker_link.answer_rounds.Given as goal

abbrev pub invariant-loop : goal.invariant-loop
invariant-loop g l =
    IsSameInbox l.fn.inbox l.inbox × IsSameOutbox l.fn.outbox l.outbox
    × GoesOn (number_by g.S.Shared.terms) g.S.Shared.key g.S.Shared.reads g.S.Shared.was l.fn.worker (items_in (taken l.inbox)) (map answer_view (items_in (sent l.outbox))) l.worker
