use Rattle.std.proofs.Common.{arith, rules, ◌+◌, ◌-◌, ◌++◌, ◌∷◌, [], ap, length, map, reverse, ◌∙◌}
use Rattle.std.specs.Vec.{vec_capacity}
use Rattle.account_core.proofs.Asking.{asked_call}
use Rattle.account_core.specs.Entries.{asked_of, entry_data}
use Rattle.account_core.specs.declared.entry.Entry.{Entry}
use Rattle.locked_account.proofs.Roominess.{is_entry, length_past, owed_after, roomy_after, roomy_pushed, roomy_same}
use Rattle.locked_account.proofs.seat.Seat.enter_call.Goals as goal

pub push_reserved-requires : goal.push_reserved-requires
push_reserved-requires c =
    let entered = is_entry c.self.inside c.self.invariant c.args.account.now.opening c.args.account.now.until (reverse c.args.account.now.history)
    c.self.inside.number c.args.call (asked_of c.op-op.result) c.in_ok-reply.reply c.in_ok-before.before c.after-after.result c.owed-2.result c.owed.result c.needed.result
    (rw c.op-op.ensures c.requires.of_call) (rw c.op-op.ensures c.in_ok-reply.ensures.answered) (search rules) c.after-after.ensures c.owed-2.ensures.value c.owed.ensures.value c.needed.ensures.value in
    omega (
      arith,
      c.in_ok-try_reserve.ensures.ok,
      c.self.invariant.places_are,
      owed_after c.places_go_with_entries.ensures.moves (reverse (map entry_data c.self.inside.mine.items))
          (record { seat = c.self.inside.number; asked = asked_of c.op-op.result; reply = c.in_ok-reply.reply }) c.in_ok-before.before c.after-after.result c.owed-2.result c.owed.result c.needed.result entered,
    )

pub invariant_of-self-2 : goal.invariant_of-self-2
invariant_of-self-2 c =
    let old = c.self.inside.mine.items in
    let entry : Entry = record { seat = c.self.inside.number; op = c.op-op.result; reply = c.in_ok-reply.reply } in
    let before = c.in_ok-before.before in
    let after = c.after-after.result in
    let places = c.self.inside.owed + c.owed.result - c.owed-2.result in
    let capacity = vec_capacity c.push_reserved.new.self in
    let entered = is_entry c.self.inside c.self.invariant c.args.account.now.opening c.args.account.now.until (reverse c.args.account.now.history)
    c.self.inside.number c.args.call (asked_of c.op-op.result) c.in_ok-reply.reply c.in_ok-before.before c.after-after.result c.owed-2.result c.owed.result c.needed.result
    (rw c.op-op.ensures c.requires.of_call) (rw c.op-op.ensures c.in_ok-reply.ensures.answered) (search rules) c.after-after.ensures c.owed-2.ensures.value c.owed.ensures.value c.needed.ensures.value in
    let same = asked_call c.args.call (asked_of c.op-op.result) (rw c.op-op.ensures c.requires.of_call) in
    roomy_pushed old c.push_reserved.new.self.items entry _ places capacity
    (c.push_reserved.ensures.items ∙ ap (λ items. items ++ entry ∷ []) c.try_reserve.ensures.items)
    (roomy_after c.places_go_with_entries.ensures.moves (reverse (map entry_data old)) (entry_data entry) before after c.owed-2.result c.owed.result c.needed.result entered
    c.args.call c.kept_stage.new.stages c.set.new.self c.self.inside.owed places (vec_capacity c.self.inside.mine) capacity
    same (roomy_same _ c.self.inside.stages c.kept_stage.new.stages _ _ c.kept_stage.ensures.same c.self.invariant) c.set.ensures
    (omega arith)
    (omega (
      arith,
      c.in_ok-try_reserve.ensures.ok,
      c.try_reserve.new.self.ok.0,
      ap length c.try_reserve.ensures.items,
      c.push_reserved.ensures.capacity,
      length_past old,
    )))
