use Rattle.std.proofs.Common.{◌≡◌, rules, length, refl, arith}
use Rattle.std.proofs.lemmas.List.Sorted.{IsNonDecreasingBy-from_sort_by_key, answers_always}
use Rattle.std.proofs.lemmas.Result.{IfOk-weaker}
use Rattle.run_outputs.specs.declared.call_record.CallRecord.{CallRecord}
use Rattle.run_outputs.proofs.Merging.{stays_in_order}
use Rattle.run_outputs.proofs.part.print_calls.Goals as goal

pub returns : goal.returns
returns c =
    let stable = c.sort_by_key.ensures.stable (λ call. call.call) (answers_always _ _ _ (λ f a r g h. search rules)) in
    let len = c.sort_by_key.ensures.len in
    let new_ok = c.sort_by_key.new.self.ok in
    let old_ok = c.args.calls.ok in
    let as_many : length c.sort_by_key.new.self.items ≡ length c.args.calls.items = omega (arith, len, new_ok, old_ok) in
    IfOk-weaker c.call_table.result _ _ (λ text is. record {
      calls = c.sort_by_key.new.self.items;
      merged = record {
        rising = IsNonDecreasingBy-from_sort_by_key (λ call. call.call) _ c.in_ok-sort_by_key.ensures.sorted (λ a r q k. search rules);
        same = λ number. stays_in_order (λ (call : CallRecord). call.call) (λ call n. record call { call = n }) (λ call n. refl) _ _ as_many stable number;
      };
      is = rw c.as_slice.ensures.value at is;
    }) c.call_table.ensures
