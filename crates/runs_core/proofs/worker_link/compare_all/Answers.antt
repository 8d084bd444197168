use Rattle.runs_core.specs.Ends.{taken}
use Rattle.runs_core.proofs.Mailing.{whole_sent}
use Rattle.std.proofs.lemmas.Result.{on_ok_weaker}
use Rattle.runs_core.proofs.worker_link.compare_all.Goals as goal

pub returns-clause-answers : goal.returns-clause-answers
returns-clause-answers g c =
    on_ok_weaker c.take_last-last.result (λ last. whole_sent (taken c.args.inbox) (taken c.take_last-last.new.inbox) _ last c.compare_ends-2.ensures.whole)
    c.take_last-last.ensures.last
