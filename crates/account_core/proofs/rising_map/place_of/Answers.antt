use Rattle.std.proofs.Common.{Ok, Err, ◌≤◌, arith, length, rules}
use Rattle.std.proofs.lemmas.List.Sorted.{answers_always}
use Rattle.account_core.proofs.RisingLemmas.{absent_above, absent_from, searched_from, stands_after}
use Rattle.account_core.proofs.rising_map.place_of.Goals as goal

pub returns-then-last-number-clause-absent : goal.returns-then-last-number-clause-absent
returns-then-last-number-clause-absent g c =
    let (some, last_is) = c.in_ok-last_place.ensures in
    absent_above c.args.number c.args.list.now c.in_ok-last_place.last_place c.index-list-last_place.result c.requires
    (omega (arith, some, last_is)) last_is c.index-list-last_place.is (grind (arith, c.if-last-number.true, c.index-list-last_place.is))

pub returns-in-Ok-clause-found : goal.returns-in-Ok-clause-found
returns-in-Ok-clause-found g c =
    let list = c.args.list.now in
    let first = c.saturating_sub-first.result in
    let (some, last_is) = c.in_ok-last_place.ensures in
    let within : first ≤ length list = omega (arith, some, last_is, c.saturating_sub-first.ensures) in
    let facts = c.in-Ok.ensures in
    let by_key = facts.position (λ item. item.0) (answers_always _ _ _ (λ f a r g called. search rules)) in
    let all = searched_from c.args.number list first (Ok c.in-Ok.place) c.requires within facts.bound by_key in
    stands_after c.args.number list first c.in-Ok.place within all.found

pub returns-in-Err-clause-absent : goal.returns-in-Err-clause-absent
returns-in-Err-clause-absent g c =
    let list = c.args.list.now in
    let first = c.saturating_sub-first.result in
    let (some, last_is) = c.in_ok-last_place.ensures in
    let within : first ≤ length list = omega (arith, some, last_is, c.saturating_sub-first.ensures) in
    let facts = c.in-Err.ensures in
    let by_key = facts.position (λ item. item.0) (answers_always _ _ _ (λ f a r g called. search rules)) in
    absent_from c.args.number list c.in_ok-last_place.last_place c.index-list-last_place.result first c.requires
    (omega (arith, some, last_is)) c.index-list-last_place.is (grind (arith, c.if-last-number.false, c.index-list-last_place.is))
    (grind (arith, c.saturating_sub-first.ensures, c.index-list-last_place.is))
    (searched_from c.args.number list first (Err c.in-Err.field-0) c.requires within facts.bound by_key).absent
