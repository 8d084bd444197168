use Rattle.runs_core.proofs.Mailing.{items_more}
use Rattle.runs_core.specs.Ends.{taken}
use Rattle.runs_core.proofs.worker_link.WorkerLink.hear.Goals as goal

pub returns-in-Ok-Work-clause-answers : goal.returns-in-Ok-Work-clause-answers
returns-in-Ok-Work-clause-answers g c =
    rw (c.from_vec.ensures.items) (items_more (taken c.args.self.now.inbox) _ c.in-Ok-Work.answers (rw c.in-Ok-Work.field-0-is at c.in-Ok-Work.ensures.taken))
