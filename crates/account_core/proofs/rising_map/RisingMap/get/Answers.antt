use Rattle.std.proofs.Common.{rules, sym}
use Rattle.account_core.proofs.RisingLemmas.{absent, present}
use Rattle.account_core.proofs.rising_map.RisingMap.get.Goals as goal

pub returns-in_err-place-in-Rising : goal.returns-in_err-place-in-Rising
returns-in_err-place-in-Rising g c =
    let none = absent c.args.number c.in-Rising.list.items (rw c.as_slice.ensures.value at c.in_err-place-in-Rising.ensures.absent) in
    rw (← c.self.view_is, c.in-Rising.is, none) (search rules)

pub returns-in_ok-place-in-Rising : goal.returns-in_ok-place-in-Rising
returns-in_ok-place-in-Rising g c =
    let there = rw c.as_slice.ensures.value at c.in_ok-place-in-Rising.ensures.found in
    let rising = rw c.in-Rising.is at c.self.invariant in
    rw (← c.self.view_is, c.in-Rising.is)
    (sym (present c.args.number c.in-Rising.list.items c.in_ok-place-in-Rising.place c.index.result.now rising there c.index.ensures))
