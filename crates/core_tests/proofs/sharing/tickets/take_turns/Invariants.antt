use Rattle.std.proofs.Common.{◌≡◌, []}
use Rattle.turn_account.specs.declared.board.Stage.TheVariants.{Idles}
use Rattle.core_tests.proofs.sharing.tickets.take_turns.Given as goal

-- between two turns the chair rests
abbrev pub invariant-loop : goal.invariant-loop
invariant-loop g l =
    record { table : l.chair.table_id ≡ l.board.shared.table_id; words : l.board.shared.table_id.words ≡ 3; idle : l.chair.me.0.stage ≡ Idles; hands : l.chair.me.1 ≡ [] }
