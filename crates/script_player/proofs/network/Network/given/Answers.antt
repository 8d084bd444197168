use Rattle.script_player.proofs.CallItems.{played}
use Rattle.script_player.proofs.network.Network.given.Goals as goal

pub returns-clause-calls : goal.returns-clause-calls
returns-clause-calls c = rw (← c.self.view_is) (played c.self.inside.config c.self.inside.calls c.self.inside.given.items c.self.invariant.0)
