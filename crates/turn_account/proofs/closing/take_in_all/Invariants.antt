use Rattle.std.proofs.Common.{◌≡◌, ◌++◌, length, map, true}
use Rattle.std.specs.Prelude.{All}
use Rattle.std.specs.Vec.Iter.{into_iter_items}
use Rattle.account_core.specs.Seats.{are_numbered}
use Rattle.turn_account.proofs.closing.take_in_all.Given as goal

abbrev pub invariant-loop-seat : goal.invariant-loop-seat
invariant-loop-seat l =
    record {
      split : l.yielded ++ into_iter_items l.seat-iterator ≡ l.fn.seats.items;
      tables : All (λ seat. seat.table ≡ l.board.shared.table_id) (into_iter_items l.seat-iterator);
      numbers : are_numbered (length l.yielded) (map (λ seat. seat.number) (into_iter_items l.seat-iterator)) ≡ true;
      table : l.chair.table_id ≡ l.initial.chair.table_id;
      taken : l.chair.me.0 ≡ record l.initial.chair.me.0 { ended = map (λ seat. seat.view) l.yielded };
    }
