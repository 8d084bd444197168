use Rattle.runs_core.proofs.worker.judge.Goals as goal

pub returns-in-Some-get : goal.returns-in-Some-get
returns-in-Some-get c = rw (c.in-Ssf.is, ← c.get.ensures, c.in-Some-get.is) (c.go_on.ensures c.args.setup.now)
