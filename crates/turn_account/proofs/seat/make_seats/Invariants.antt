use Rattle.std.proofs.Common.{◌≡◌, ◌∷◌, []}
use Rattle.turn_account.specs.TurnViews.{fresh_turn_seats}
use Rattle.turn_account.specs.Views.{first_view}
use Rattle.turn_account.proofs.seat.make_seats.Given as goal

abbrev pub invariant-loop-number : goal.invariant-loop-number
invariant-loop-number l =
    let start = l.initial.first.me.0.seen in
    record {
      table : l.first.table_id ≡ l.initial.first.table_id;
      first : l.first.me ≡ (record (first_view start.opening start.until start.limit) { made = l.number }, []);
      made : record { table = l.initial.first.table_id; number = 0; view = start } ∷ l.made.items ≡ fresh_turn_seats l.initial.first.table_id start l.number;
    }
