use Rattle.std.proofs.Common.{ap, sym, ◌∙◌}
use Rattle.ssf_core.specs.Phases.{state_of_phase}
use Rattle.ssf_core.proofs.ssf.Ssf.state.Goals as goal

pub returns : goal.returns
returns c = rw (← c.self.view_is) (λ t stands. c.state_of.ensures ∙ ap state_of_phase (sym stands.phase))
