use Rattle.std.specs.Prelude.{[]}
use Rattle.ssf_core.proofs.CallLemmas.{advances_run}
use Rattle.ssf_core.proofs.MeterLemmas.{advance_metered, nothing_metered}
use Rattle.ssf_core.proofs.ssf.Ssf.advance.Goals as goal

pub returns-clause-trace : goal.returns-clause-trace
returns-clause-trace c =
    rw (← c.self.view_is)
    (λ order t stands.
    advances_run c.self.inside.config c.self.inside.last c.args.now c.self.inside.stage c.run_timers-self-inside.result t c.run_timers-self-inside.new.sent.items
    c.run_timers-self-inside.ensures.quiet (c.run_timers-self-inside.ensures.traced t stands))

pub returns-then-now-self-clause-metered : goal.returns-then-now-self-clause-metered
returns-then-now-self-clause-metered c = rw c.new-sent.ensures (nothing_metered [] c.args.self.now)

pub returns-clause-metered : goal.returns-clause-metered
returns-clause-metered c =
    rw (← c.self.view_is)
    (advance_metered (record { config = c.self.inside.config; last = c.self.inside.last; stage = c.self.inside.stage })
    (record { config = c.self.inside.config; last = c.args.now; stage = c.run_timers-self-inside.result }) c.args.now c.run_timers-self-inside.new.sent.items
    (λ t stands.
    advances_run c.self.inside.config c.self.inside.last c.args.now c.self.inside.stage c.run_timers-self-inside.result t c.run_timers-self-inside.new.sent.items
    c.run_timers-self-inside.ensures.quiet (c.run_timers-self-inside.ensures.traced t stands)))
