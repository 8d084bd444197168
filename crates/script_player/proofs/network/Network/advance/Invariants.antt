use Rattle.script_player.proofs.TimerLemmas.{HaveWaited}
use Rattle.script_player.proofs.network.Network.advance.Given as goal

abbrev pub invariant-loop-call : goal.invariant-loop-call
invariant-loop-call l = HaveWaited l.now l.initial.self l.self l.initial.call-iterator l.call-iterator
