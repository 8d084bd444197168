use Rattle.ssf_core.proofs.CallLemmas.{bounded, next_ahead, next_due_of}
use Rattle.ssf_core.proofs.ssf.Ssf.next_due.Goals as goal

pub next_due-requires : goal.next_due-requires
next_due-requires c = bounded c.self.inside.last c.self.inside.stage c.self.invariant.0 c.self.invariant.1

pub returns-clause-least : goal.returns-clause-least
returns-clause-least c = rw (← c.self.view_is, c.next_due.ensures) (λ t stands. next_due_of c.self.inside.config c.self.inside.last c.self.inside.stage t stands)

pub returns-clause-ahead : goal.returns-clause-ahead
returns-clause-ahead c = rw (← c.self.view_is, c.next_due.ensures) (next_ahead c.self.inside.last c.self.inside.stage c.self.invariant.1)
