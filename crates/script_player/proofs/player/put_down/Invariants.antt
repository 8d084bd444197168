use Rattle.std.proofs.Common.{◌≡◌, ◌++◌, drop}
use Rattle.script_player.specs.Deliveries.{deliveries_of}
use Rattle.script_player.proofs.player.put_down.Given as goal

abbrev pub invariant-loop-answer : goal.invariant-loop-answer
invariant-loop-answer l =
    l.initial.deliveries.items ++ deliveries_of l.delay l.given l.answers ≡ l.deliveries.items ++ deliveries_of l.delay l.given (drop l.answer-index l.answers)
