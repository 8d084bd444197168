use Rattle.std.proofs.Common.{◌≡◌, [], List, arith, length, map, ap, refl, sym, rules, ◌∙◌}
use Rattle.std.proofs.Math.Seq.{map-set_same}
use Rattle.std.proofs.lemmas.List.{length-map, nil_from_length}
use Rattle.std.specs.Global.{Vec}
use Rattle.std.specs.Vec.Iter.{into_iter_items}
use Rattle.runs_core.specs.Sending.{heard_by, sent_by}
use Rattle.runs_core.specs.declared.worker_link.WorkerLink.{WorkerLink}
use Rattle.run_values.specs.declared.post.Post.{Post}
use Rattle.runs_core.proofs.Joins.{all_joined, has_list, none_joined, one_joined}
use Rattle.runs_core.proofs.crew.send_all.Goals as goal

many_lists : {S G T : Type 0} (shares : List (Vec Post)) (links : List (WorkerLink S G T)) → length shares ≡ length links → length (map (λ share. share.items) shares) ≡ length (map sent_by links)
many_lists shares links same = length-map shares (λ share. share.items) ∙ same ∙ sym (length-map links sent_by)

pub loop-share-init : goal.loop-share-init
loop-share-init g c = (none_joined _ _ _ (ap (map (λ share. share.items)) (ap into_iter_items c.into_iter-share-iterator.ensures.into_iter_gives)), refl, refl)

pub index_mut-requires : goal.index_mut-requires
index_mut-requires g c =
    let many = many_lists (into_iter_items c.args.shares) c.args.links.now.items c.requires.count in
    let below = has_list sent_by (map sent_by c.args.links.now.items) (map (λ share. share.items) (into_iter_items c.args.shares)) c.in-Some.share.items (map (λ share. share.items) (into_iter_items c.next.new.self)) _ c.loop-share.links.items many (rw c.in-Some.ensures.steps.0 at c.loop-share.invariant.0) in
    omega (arith, below, c.loop-share.links.ok)

pub overflow_add-at : goal.overflow_add-at
overflow_add-at g c =
    let many = many_lists (into_iter_items c.args.shares) c.args.links.now.items c.requires.count in
    let below = has_list sent_by (map sent_by c.args.links.now.items) (map (λ share. share.items) (into_iter_items c.args.shares)) c.in-Some.share.items (map (λ share. share.items) (into_iter_items c.next.new.self)) _ c.loop-share.links.items many (rw c.in-Some.ensures.steps.0 at c.loop-share.invariant.0) in
    omega (arith, below, c.loop-share.links.ok)

pub returns-in_err-send-clause-promises : goal.returns-in_err-send-clause-promises
returns-in_err-send-clause-promises g c =
    map-set_same (λ link. link.child.promise) c.loop-share.links.items c.loop-share.at c.send.new.self c.index_mut.result.now (search rules) ∙ c.loop-share.invariant.1

pub returns-in_err-send-clause-heard : goal.returns-in_err-send-clause-heard
returns-in_err-send-clause-heard g c =
    map-set_same heard_by c.loop-share.links.items c.loop-share.at c.send.new.self c.index_mut.result.now (search rules) ∙ c.loop-share.invariant.2

pub loop-share-preserved : goal.loop-share-preserved
loop-share-preserved g c =
    let many = many_lists (into_iter_items c.args.shares) c.args.links.now.items c.requires.count in (
      one_joined sent_by (map sent_by c.args.links.now.items) (map (λ share. share.items) (into_iter_items c.args.shares)) c.in-Some.share.items (map (λ share. share.items) (into_iter_items c.next.new.self)) _ c.loop-share.links.items c.index_mut.result.now c.send.new.self many
          (rw c.in-Some.ensures.steps.0 at c.loop-share.invariant.0) (search rules) c.in_ok-send.ensures.posts,
      map-set_same (λ link. link.child.promise) c.loop-share.links.items c.loop-share.at c.send.new.self c.index_mut.result.now (search rules) ∙ c.loop-share.invariant.1,
      map-set_same heard_by c.loop-share.links.items c.loop-share.at c.send.new.self c.index_mut.result.now (search rules) ∙ c.loop-share.invariant.2,
    )

pub returns-clause-posts : goal.returns-clause-posts
returns-clause-posts g c =
    let none : into_iter_items c.loop-share.share-iterator ≡ [] = nil_from_length _ (omega (arith, c.in-None.ensures.steps.0, c.loop-share.share-iterator.rest.ok)) in
    all_joined (map sent_by c.args.links.now.items) (map (λ share. share.items) (into_iter_items c.args.shares)) _ _ _ (ap (map (λ share. share.items)) none) c.loop-share.invariant.0
