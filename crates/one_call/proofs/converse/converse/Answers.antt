use Rattle.one_call.proofs.Answering.{talked_out}
use Rattle.one_call.proofs.converse.converse.Goals as goal

pub returns-clause-kept : goal.returns-clause-kept
returns-clause-kept g c = λ call meter queued ready.
    (talked_out g.P.Port.state call meter queued _ _ _ _ _ c.in-Ok.ensures.talks ready).0

pub returns-clause-rests : goal.returns-clause-rests
returns-clause-rests g c = λ call meter queued ready.
    (talked_out g.P.Port.state call meter queued _ _ _ _ _ c.in-Ok.ensures.talks ready).1
