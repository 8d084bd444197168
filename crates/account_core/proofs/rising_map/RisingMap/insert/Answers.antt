use Rattle.std.proofs.Common.{rules, sym, ◌∙◌}
use Rattle.account_core.proofs.RisingLemmas.{absent, inserted_last, inserted_there, rising_set}
use Rattle.account_core.proofs.rising_map.RisingMap.insert.Goals as goal

pub returns-in-Some-clause-inserted : goal.returns-in-Some-clause-inserted
returns-in-Some-clause-inserted g c =
    let there = rw c.as_slice.ensures.value at c.in-Some.ensures.found in
    let rising = rw c.in-Rising.is at c.self.invariant in
    rw (← c.self.view_is, c.in-Rising.is)
    (sym (inserted_there c.args.number c.in-Rising.list.items c.in-Some.place c.index_mut.result.now c.args.value rising there c.index_mut.ensures.value))

pub returns-in_err-push-in-Rising-clause-fresh : goal.returns-in_err-push-in-Rising-clause-fresh
returns-in_err-push-in-Rising-clause-fresh g c =
    let none = absent c.args.number c.in-Rising.list.items (rw c.as_slice.ensures.value at c.in_default.ensures.absent) in
    rw (← c.self.view_is, c.in-Rising.is, none) (search rules)

pub returns-in_ok-push-in-Rising-clause-inserted : goal.returns-in_ok-push-in-Rising-clause-inserted
returns-in_ok-push-in-Rising-clause-inserted g c =
    let below = rw c.as_slice-in_default.ensures.value at (c.is_above.ensures c.if-is_above.true) in
    rw (← c.self.view_is, c.in-Rising.is) (c.in_ok-push-in-Rising.ensures.items ∙ sym (inserted_last c.args.number c.args.value c.in-Rising.list.items below))

pub returns-in_err-map-in-Rising-clause-fresh : goal.returns-in_err-map-in-Rising-clause-fresh
returns-in_err-map-in-Rising-clause-fresh g c =
    let none = absent c.args.number c.in-Rising.list.items (rw c.as_slice.ensures.value at c.in_default.ensures.absent) in
    rw (← c.self.view_is, c.in-Rising.is, none) (search rules)

pub invariant_of-self : goal.invariant_of-self
invariant_of-self g c =
    let there = rw c.as_slice.ensures.value at c.in-Some.ensures.found in
    let rising = rw c.in-Rising.is at c.self.invariant in
    rising_set c.in-Rising.list.items c.in-Some.place c.index_mut.result.now c.args.value rising there.0 c.index_mut.ensures.value

pub invariant_of-self-in_err-push-in-Rising : goal.invariant_of-self-in_err-push-in-Rising
invariant_of-self-in_err-push-in-Rising g c =
    rw c.in_err-push-in-Rising.ensures.items (rw c.in-Rising.is at c.self.invariant)

pub invariant_of-self-in_err-map-in-Rising : goal.invariant_of-self-in_err-map-in-Rising
invariant_of-self-in_err-map-in-Rising g c = rw c.in-Rising.is at c.self.invariant
