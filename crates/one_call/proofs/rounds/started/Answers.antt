use Rattle.one_call.proofs.Starting.{new_is_started, started_still}
use Rattle.one_call.proofs.rounds.started.Goals as goal

pub returns-clause-started : goal.returns-clause-started
returns-clause-started c =
    started_still c.invoke-invoked.new.self c.trigger-triggered.new.self c.trigger-triggered.result.sent.items c.trigger-triggered.ensures.metered
    (started_still c.new-ssf.result c.invoke-invoked.new.self c.invoke-invoked.result.sent.items c.invoke-invoked.ensures.metered
    (new_is_started c.new-ssf.result c.new-ssf.ensures.stands))
