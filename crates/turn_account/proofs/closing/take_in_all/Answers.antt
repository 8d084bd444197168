use Rattle.std.proofs.Common.{◌≡◌, ◌++◌, ◌∷◌, [], ap, append_assoc, length, refl, sym, ◌∙◌}
use Rattle.std.specs.Vec.Iter.{into_iter_items}
use Rattle.std.proofs.lemmas.List.{length-map, length_push, map_push}
use Rattle.std.proofs.lemmas.List.Elements.{All-tail}
use Rattle.turn_account.specs.TurnViews.{TurnSeatView}
use Rattle.turn_account.proofs.Ending.{numbered_on}
use Rattle.turn_account.proofs.closing.take_in_all.Goals as goal

pub take_in-requires-clause-number : goal.take_in-requires-clause-number
take_in-requires-clause-number c =
    let before = c.loop-seat.yielded in
    let left = into_iter_items c.loop-seat.seat-iterator in
    let rest = into_iter_items c.next.new.self in
    let on = numbered_on (λ (s : TurnSeatView). s.number) (length before) left _ c.in-Some.seat c.in-Some.ensures.steps.0 c.loop-seat.invariant.numbers in
    c.seat.invariant.number ∙ (ap (λ (s : TurnSeatView). s.number) c.seat.view_is ∙ (on.0
    ∙ rw (c.loop-seat.invariant.taken) (sym (length-map before (λ (s : TurnSeatView). s.view)))))

pub loop-seat-preserved : goal.loop-seat-preserved
loop-seat-preserved c =
    let before = c.loop-seat.yielded in
    let seat = c.in-Some.seat in
    let left = into_iter_items c.loop-seat.seat-iterator in
    let rest = into_iter_items c.next.new.self in
    let steps = c.in-Some.ensures.steps.0 in
    let on = numbered_on (λ (s : TurnSeatView). s.number) (length before) left _ seat steps c.loop-seat.invariant.numbers in
    record {
      split = append_assoc before (seat ∷ []) rest ∙ (ap (λ more. before ++ more) (sym steps) ∙ c.loop-seat.invariant.split);
      tables = All-tail (λ (s : TurnSeatView). s.table ≡ c.args.board.now.shared.table_id) seat rest (rw steps at c.loop-seat.invariant.tables);
      numbers = rw (length_push before seat) on.1;
      table = c.take_in.ensures.table ∙ c.loop-seat.invariant.table;
      taken = ap (λ me. me.0) c.take_in.ensures.taken
          ∙ rw (c.loop-seat.invariant.taken, map_push (λ (s : TurnSeatView). s.view) before seat, ← c.seat.view_is) refl;
    }
