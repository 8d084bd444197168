use Rattle.std.proofs.Common.{◌≡◌}
use Rattle.turn_account.proofs.turn.take_turn.Given as goal

abbrev pub invariant-loop : goal.invariant-loop
invariant-loop g l = record { table : l.chair.table_id ≡ l.initial.chair.table_id; same : l.chair.me ≡ l.initial.chair.me }
