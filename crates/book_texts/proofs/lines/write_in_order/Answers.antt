use Rattle.std.proofs.Common.{rules}
use Rattle.std.proofs.lemmas.List.Sorted.{IsNonDecreasingBy-from_sort_by_key, answers_always}
use Rattle.std.proofs.lemmas.Result.{IfOk-weaker}
use Rattle.book_texts.proofs.CallLemmas.{stays_in_order}
use Rattle.book_texts.proofs.lines.write_in_order.Goals as goal

pub returns : goal.returns
returns c =
    let stable = c.sort_by_key.ensures.stable (λ line. line.sum.call) (answers_always _ _ _ (λ f a r g h. search rules)) in
    IfOk-weaker c.write_calls.result _ _ (λ done said. (
      c.sort_by_key.new.self.items,
      record {
        rising = IsNonDecreasingBy-from_sort_by_key (λ line. line.sum.call) _ c.in_ok-sort_by_key.ensures.sorted (λ a r q k. search rules);
        each = stays_in_order _ _ stable;
      },
      rw (c.as_slice.ensures.value) at said,
    )) c.write_calls.ensures
