use Rattle.std.proofs.Common.{◌≡◌, ◌∙◌, false, rules, sym, true}
use Rattle.account_core.proofs.RisingLemmas.{absent, inserted_there, rising_set, set_is_inserted}
use Rattle.account_core.proofs.rising_map.RisingMap.set.Goals.{in-Rising+in-Some, in-Rising+in_default, in-Mixed+in-Some-get_mut, in-Mixed+in_default-get_mut}
use Rattle.account_core.proofs.rising_map.RisingMap.set.Goals as goal

pub invariant_of-self : goal.invariant_of-self
invariant_of-self g c = elim c.match-self.branch [
  | in-Rising+in-Some w ↦
      let there = rw w.as_slice.ensures.value at w.in-Some.ensures.found in
      let rising = rw w.in-Rising.is at c.self.invariant in
      rw w.self-inside-is (rising_set w.in-Rising.list.items w.in-Some.place w.index_mut.result.now c.args.value rising there.0 w.index_mut.ensures.value)
  | in-Rising+in_default w ↦ rw w.self-inside-is (rw w.in-Rising.is at c.self.invariant)
  | in-Mixed+in-Some-get_mut w ↦ rw w.self-inside-is (search rules)
  | in-Mixed+in_default-get_mut w ↦ rw w.self-inside-is (search rules)
]

pub returns : goal.returns
returns g c = elim c.match-self.branch [
  | in-Rising+in-Some w ↦
      let there = rw w.as_slice.ensures.value at w.in-Some.ensures.found in
      let rising = rw w.in-Rising.is at c.self.invariant in
      rw (w.self-inside-is, ← c.self.view_is, w.in-Rising.is)
      (sym (inserted_there c.args.number w.in-Rising.list.items w.in-Some.place w.index_mut.result.now c.args.value rising there w.index_mut.ensures.value))
  | in-Rising+in_default w ↦
      let none = absent c.args.number w.in-Rising.list.items (rw w.as_slice.ensures.value at w.in_default.ensures.absent) in
      let never : false ≡ true = rw (← c.self.view_is, w.in-Rising.is, none) at c.requires in
      cc
  | in-Mixed+in-Some-get_mut w ↦
      let there = rw (← c.self.view_is, w.in-Mixed.is) at c.requires in
      rw (w.self-inside-is, ← c.self.view_is, w.in-Mixed.is)
      ((w.get_mut.follows.holds c.args.value).0 ∙ set_is_inserted c.args.number c.args.value w.in-Mixed.map.entries w.get_mut.ensures.ordered there)
  | in-Mixed+in_default-get_mut w ↦ rw w.self-inside-is (search rules)
]
