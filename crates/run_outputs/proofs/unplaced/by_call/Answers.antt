use Rattle.std.proofs.Common.{◌≡◌, rules, length, refl, arith}
use Rattle.std.proofs.lemmas.List.Sorted.{IsNonDecreasingBy-from_sort_by_key, answers_always}
use Rattle.run_outputs.proofs.Merging.{stays_in_order}
use Rattle.run_outputs.specs.declared.unplaced.UnplacedEvent.{UnplacedEvent}
use Rattle.run_outputs.proofs.unplaced.by_call.Goals as goal

pub returns : goal.returns
returns c =
    let stable = c.sort_by_key.ensures.stable (λ event. event.call) (answers_always _ _ _ (λ f a r g h. search rules)) in
    let len = c.sort_by_key.ensures.len in
    let new_ok = c.sort_by_key.new.self.ok in
    let old_ok = c.in_ok-sorted.sorted.ok in
    let as_many : length c.sort_by_key.new.self.items ≡ length c.in_ok-sorted.sorted.items = omega (arith, len, new_ok, old_ok) in
    rw (← c.in_ok-sorted.ensures.items_if_clones_equal (λ x y same. same)) (record {
      rising = IsNonDecreasingBy-from_sort_by_key (λ event. event.call) _ c.in_ok-sort_by_key.ensures.sorted (λ a r q k. search rules);
      same = λ number. stays_in_order (λ (event : UnplacedEvent). event.call) (λ event n. record event { call = n }) (λ event n. refl) _ _ as_many stable number;
    })
