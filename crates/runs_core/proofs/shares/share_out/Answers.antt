use Rattle.std.proofs.Common.{arith, refl, rules, map, subst}
use Rattle.std.proofs.lemmas.List.{length-map, take_all}
use Rattle.runs_core.specs.Shares.{AreShares}
use Rattle.runs_core.proofs.HandOuts.{none_shared, share_more}
use Rattle.runs_core.proofs.shares.share_out.Goals as goal

pub loop-place-init : goal.loop-place-init
loop-place-init c = none_shared c.args.workers c.args.first c.args.added.now _ _ refl c.in_ok-shares.ensures

pub index_mut-requires : goal.index_mut-requires
index_mut-requires c =
    omega (arith, c.worker_of-worker.ensures.within, c.loop-place.invariant.count, length-map c.loop-place.shares.items (λ share. share.items), c.loop-place.shares.ok)

pub loop-place-preserved : goal.loop-place-preserved
loop-place-preserved c =
    share_more (λ share. share.items) c.args.workers c.args.first c.args.added.now c.loop-place.place c.loop-place.shares.items c.post_at-post.result c.worker_of-worker.result c.index_mut.result.now c.push.new.self
    (omega (arith, c.loop-place-test.true)) c.loop-place.invariant c.worker_of-worker.ensures.within (search rules) c.in_ok-push.ensures.items c.post_at-post.ensures (search rules)

pub returns : goal.returns
returns c = record {
  shares = subst (λ given. AreShares c.args.workers c.args.first given (map (λ share. share.items) c.loop-place.shares.items))
      (take_all c.loop-place.place c.args.added.now (omega (arith, c.loop-place-test.false))) c.loop-place.invariant;
}
