use Rattle.std.proofs.Common.{ℕ, ◌≤◌, ◌-◌, ap, arith, length}
use Rattle.runs_core.proofs.HandOuts.{added_slice, longer_by, whole_by}
use Rattle.std.specs.Prelude.{drop}
use Rattle.std.proofs.lemmas.List.Elements.{All-drop, All-take}
use Rattle.run_values.specs.declared.post.Body.{Body}
use Rattle.price_core.specs.declared.times.TheConstants.{HORIZON}
use Rattle.runs_core.proofs.rounds.play_round.Goals as goal

pub slice_bounds-added-count : goal.slice_bounds-added-count
slice_bounds-added-count g c =
    let grows = c.in_ok-round.ensures.grows in
    let longer = longer_by _ _ grows.0 c.given.result.now c.given-first.result.now grows.1 c.given.ensures.items c.given-first.ensures.items in
    omega (arith, longer)

pub slice_bounds-added-start : goal.slice_bounds-added-start
slice_bounds-added-start g c =
    let grows = c.in_ok-round.ensures.grows in
    let longer = longer_by _ _ grows.0 c.given.result.now c.given-first.result.now grows.1 c.given.ensures.items c.given-first.ensures.items in
    omega (arith, longer)

pub slice_bounds-added-end : goal.slice_bounds-added-end
slice_bounds-added-end g c =
    let grows = c.in_ok-round.ensures.grows in
    let longer = longer_by _ _ grows.0 c.given.result.now c.given-first.result.now grows.1 c.given.ensures.items c.given-first.ensures.items in
    omega (arith, longer)

pub serve_round-requires-clause-few : goal.serve_round-requires-clause-few
serve_round-requires-clause-few g c = λ κs lives.
    let grows = c.in_ok-round.ensures.grows in
    let longer = longer_by _ _ grows.0 c.given.result.now c.given-first.result.now grows.1 c.given.ensures.items c.given-first.ensures.items in
    omega (arith, whole_by c.given.result.now c.given-first.result.now longer, c.given.type_inv.0)

pub serve_round-requires-clause-moments : goal.serve_round-requires-clause-moments
serve_round-requires-clause-moments g c = λ κs lives.
    let within = λ (item : ℕ × Body). item.0 ≤ HORIZON in
    let first = length c.given-first.result.now in
    All-take within (length c.given.result.now - first) (drop first c.given.result.now) (All-drop within first c.given.result.now c.given.ensures.moments)

pub returns-clause-more : goal.returns-clause-more
returns-clause-more g c = λ _.
    let grows = c.in_ok-round.ensures.grows in
    let added = added_slice _ _ grows.0 c.given.result.now c.given-first.result.now grows.1 c.given.ensures.items c.given-first.ensures.items in
    let first = ap length c.given-first.ensures.items in (
      grows.0,
      grows.1,
      rw (added, first) at c.in_ok-serve_round.ensures.served,
    )
