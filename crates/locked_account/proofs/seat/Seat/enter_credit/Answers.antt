use Rattle.std.proofs.Common.{arith, ◌≤◌, ◌+◌, ◌++◌, ◌∷◌, [], ap, length, ◌∙◌}
use Rattle.std.specs.Vec.{vec_capacity}
use Rattle.account_core.specs.declared.entry.Entry.{Entry}
use Rattle.locked_account.proofs.Roominess.{credit_roomy, roomy_pushed}
use Rattle.locked_account.proofs.seat.Seat.enter_credit.Goals as goal

pub invariant_of-self-2 : goal.invariant_of-self-2
invariant_of-self-2 c =
    let old = c.self.inside.mine.items in
    let entry : Entry = record { seat = c.self.inside.number; op = c.op-op.result; reply = c.in_ok-reply.reply } in
    let capacity = vec_capacity c.push_reserved.new.self in
    let room : length old + (c.self.inside.owed + 1) ≤ capacity =
    omega (arith, c.in_ok-try_reserve.ensures.ok, c.try_reserve.new.self.ok.0, ap length c.try_reserve.ensures.items, c.push_reserved.ensures.capacity) in
    roomy_pushed old c.push_reserved.new.self.items entry c.self.inside.stages c.self.inside.owed capacity
    (c.push_reserved.ensures.items ∙ ap (λ items. items ++ entry ∷ []) c.try_reserve.ensures.items)
    (credit_roomy c.places_go_with_entries.ensures.moves old entry c.self.inside.stages c.self.inside.owed (vec_capacity c.self.inside.mine) capacity
    c.self.invariant (rw c.op-op.ensures c.requires.credit) room)
