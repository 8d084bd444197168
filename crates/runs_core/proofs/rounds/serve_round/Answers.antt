use Rattle.std.proofs.Common.{◌≡◌, ◌+◌, ◌∷◌, arith, ap, length, map, rules}
use Rattle.std.specs.Vec.Iter.{into_iter_items}
use Rattle.std.proofs.lemmas.List.{length-map}
use Rattle.std.proofs.lemmas.Result.{on_ok_weaker}
use Rattle.runs_core.proofs.Finishing.{none_failed}
use Rattle.runs_core.proofs.RoundLemmas.{same_count}
use Rattle.runs_core.specs.Crews.{count_of}
use Rattle.runs_core.proofs.rounds.serve_round.Goals as goal

pub returns-clause-served : goal.returns-clause-served
returns-clause-served g c =
    let queues = c.in_ok-queues.queues.items in
    let (own, others, are, goes_on, heard, as_many) = c.in_ok-queues.ensures.answers in
    let split : c.in_ok-shares.shares.items ≡ c.in-Some.mine ∷ into_iter_items c.next.new.self = search rules in
    let workers : c.len.result + 1 ≡ count_of c.args.crew.now = omega (arith, c.len.ensures, c.args.crew.now.links.ok) in
    let many : length queues ≡ count_of c.args.crew.now = omega (arith, ap length are, length-map queues (λ queue. queue.items), as_many) in
    on_ok_weaker c.merge.result (λ merged. record {
      own = c.in-Some.mine.items;
      others = map (λ share. share.items) (into_iter_items c.next.new.self);
      are_shares = rw (workers, split) at c.in_ok-shares.ensures.shares;
      sent = c.in_ok-queues.ensures.posts;
      mine = own;
      goes_on = goes_on;
      replies = others;
      heard = heard;
      are_answers = rw (are, many) at merged;
      count = ap (λ n. n + 1) (same_count _ _ c.in_ok-queues.ensures.promises);
    })
    c.merge.ensures.answers

pub merge-requires-clause-some : goal.merge-requires-clause-some
merge-requires-clause-some g c =
    let (own, others, are, _, _, _) = c.in_ok-queues.ensures.answers in
    let queues = c.in_ok-queues.queues.items in
    omega (arith, ap length are, length-map queues (λ queue. queue.items))

pub returns-in_err-queues-clause-promises : goal.returns-in_err-queues-clause-promises
returns-in_err-queues-clause-promises g c = c.answer_round.ensures.promises

pub returns-clause-failed : goal.returns-clause-failed
returns-clause-failed g c =
    let none = none_failed _ _ c.in_ok-queues.queues c.answer_round.ensures.failed c.in_ok-queues.was in
    rw none tt

pub answer_round-requires-clause-count : goal.answer_round-requires-clause-count
answer_round-requires-clause-count g c = λ _ _.
    let shares = c.in_ok-shares.shares.items in
    let split : shares ≡ c.in-Some.mine ∷ into_iter_items c.next.new.self = search rules in
    omega (arith, ap length split, c.in_ok-shares.ensures.shares.count, length-map shares (λ share. share.items), c.len.ensures)
