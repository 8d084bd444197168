use Rattle.std.proofs.Common.{List, ◌≡◌}
use Rattle.dialogue_core.specs.Talks.{AreGot, Got, asks_left, talked}
use Rattle.dialogue_core.specs.Views.{phase_of, says_of}
use Rattle.dialogue_core.proofs.talk.converse.Given as goal

abbrev pub invariant-loop-turn : goal.invariant-loop-turn
invariant-loop-turn g l = record {
  may_ask : g.A.Asker.may_ask (l.asker, l.way);
  gots : List Got;
  are_got : AreGot g.A.Asker.does (says_of l.initial.turn, phase_of l.initial.dialogue) (l.initial.asker, l.initial.way) gots (l.asker, l.way);
  talks : talked (says_of l.initial.turn, phase_of l.initial.dialogue) gots ≡ (says_of l.turn, phase_of l.dialogue);
}

abbrev pub decreases-loop-turn : goal.decreases-loop-turn
decreases-loop-turn g l = asks_left (says_of l.turn) (phase_of l.dialogue)
