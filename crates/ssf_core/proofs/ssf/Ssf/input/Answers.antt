use Rattle.ssf_core.proofs.CallLemmas.{takes_run}
use Rattle.ssf_core.proofs.ssf.Ssf.input.Goals as goal

pub invariant_of-self : goal.invariant_of-self
invariant_of-self c = (c.requires, rw c.unwrap_or-self-inside.ensures c.take-outcome.ensures.timely)

pub returns-clause-trace : goal.returns-clause-trace
returns-clause-trace c =
    rw (← c.self.view_is, c.err.ensures.value, c.unwrap_or-self-inside.ensures)
    (λ order t stands.
    takes_run c.self.inside.config c.self.inside.last c.args.now c.self.inside.stage c.run_timers-stage.result t c.args.input c.run_timers-stage.new.sent.items
    c.take-outcome.result c.take-outcome.new.sent.items c.run_timers-stage.ensures.quiet (c.run_timers-stage.ensures.traced t stands) c.take-outcome.ensures.takes)
