use Rattle.script_player.proofs.Firsts.{first_is, none_first}
use Rattle.script_player.proofs.network.Network.first_due.Goals as goal

pub returns-in_err-at : goal.returns-in_err-at
returns-in_err-at c =
    rw (← c.self.view_is, c.from_residual.ensures)
    (λ whole. none_first c.self.inside.calls.entries c.self.inside.dues (c.self.invariant.1 whole) c.in_err-at.ensures.variant.1)

pub returns : goal.returns
returns c =
    rw (← c.self.view_is)
    (λ whole. first_is c.self.inside.calls.entries c.self.inside.dues c.in_ok-at.field-0.now.0 c.in_ok-at.field-0.now.1 (c.self.invariant.1 whole) c.in_ok-at.ensures.member c.in_ok-at.ensures.least)
