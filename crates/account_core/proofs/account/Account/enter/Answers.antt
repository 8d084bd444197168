use Rattle.std.proofs.Common.{arith, ◌++◌, ◌∷◌, [], ap, length, ◌∙◌}
use Rattle.std.specs.Vec.{vec_capacity}
use Rattle.std.proofs.lemmas.List.{length-append, length-map}
use Rattle.account_core.specs.Entries.{entry_data}
use Rattle.account_core.proofs.Keeping.{admits, kept_entered, places_enough, shown}
use Rattle.account_core.proofs.account.Account.enter.Goals as goal

pub push_reserved-requires : goal.push_reserved-requires
push_reserved-requires c =
    let a = c.self.inside in
    let entry = c.in_ok-entry.entry in
    let is = admits a c.args.self.now c.self.view_is c.self.invariant c.args.admitted c.requires in
    omega (
      arith,
      c.in_ok-try_reserve.ensures.ok,
      c.try_reserve.new.self.ok.0,
      ap length c.try_reserve.ensures.items,
      places_enough a c.args.self.now c.self.view_is c.self.invariant c.args.admitted c.requires (entry_data entry) c.args.seat c.places.result (c.in_ok-entry.ensures.entry (shown a) is) c.places.ensures,
      length-append (shown a).history (entry_data entry ∷ []),
      length-map a.entries.items entry_data,
    )

pub invariant_of-self-2 : goal.invariant_of-self-2
invariant_of-self-2 c =
    let a = c.self.inside in
    let entry = c.in_ok-entry.entry in
    let is = admits a c.args.self.now c.self.view_is c.self.invariant c.args.admitted c.requires in
    let teller_is = c.in_ok-entry.ensures.entered (shown a) is in
    kept_entered a c.args.self.now c.self.view_is c.self.invariant entry c.push_reserved.new.self.items c.enter.new.self (vec_capacity c.push_reserved.new.self)
    (c.push_reserved.ensures.items ∙ ap (λ items. items ++ entry ∷ []) c.try_reserve.ensures.items) teller_is
    (omega (
      arith,
      c.in_ok-try_reserve.ensures.ok,
      c.try_reserve.new.self.ok.0,
      ap length c.try_reserve.ensures.items,
      c.push_reserved.ensures.capacity,
      teller_is.counted,
      teller_is.owed_are,
      places_enough a c.args.self.now c.self.view_is c.self.invariant c.args.admitted c.requires (entry_data entry) c.args.seat c.places.result (c.in_ok-entry.ensures.entry (shown a) is) c.places.ensures,
    ))
