use Rattle.ssf_core.proofs.ssf.take.Goals as goal

pub returns-in-Invoke-clause-timely : goal.returns-in-Invoke-clause-timely
returns-in-Invoke-clause-timely c = c.invoke.ensures.timely c.args.now c.requires.timely
