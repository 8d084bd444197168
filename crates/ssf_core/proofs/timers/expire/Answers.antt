use Rattle.ssf_core.proofs.timers.expire.Goals as goal

pub returns-in-Tsw-clause-expires : goal.returns-in-Tsw-clause-expires
returns-in-Tsw-clause-expires c = rw c.in-Tsw.is (c.switch_over.ensures.expires c.args.config.now c.args.sent.now.items)
