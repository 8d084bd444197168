use Rattle.std.proofs.Common.{◌≡◌, ◌≤◌, ◌<◌, ℕ, ◌+◌, List, ap, arith, length, map, refl, sym, ◌∙◌}
use Rattle.std.proofs.Math.ListN.{get_or, set}
use Rattle.std.proofs.Math.Seq.{map-set_same}
use Rattle.std.proofs.lemmas.List.{length-set}
use Rattle.std.proofs.lemmas.Result.{on_ok_weaker}
use Rattle.std.specs.Vec.{vec_len}
use Rattle.runs_core.specs.Ends.{sent}
use Rattle.runs_core.specs.Mails.{items_in}
use Rattle.runs_core.specs.Sending.{heard_by, promises_of, sent_by}
use Rattle.runs_core.specs.declared.worker_link.WorkerLink.{WorkerLink}
use Rattle.runs_core.proofs.HearingLemmas.{none_heard, one_heard}
use Rattle.runs_core.proofs.crew.hear_all.Goals as goal
use Rattle.runs_core.proofs.crew.hear_all.Goals.{in-Err, in-Ok}

-- facts on numbers alone, where `omega` has little to read

none_long : (long many : ℕ) → long ≡ many → many ≡ 0 → long ≤ 0
none_long long many is none = omega (arith, is, none)

below_all : (at end all many : ℕ) → at < end → end ≡ all → all ≡ many → at < many
below_all at end all many below is same = omega (arith, below, is, same)

one_longer : (long longer at : ℕ) → long ≤ at → longer ≡ long + 1 → longer ≤ at + 1
one_longer long longer at within is = omega (arith, within, is)

no_longer : (long at : ℕ) → long ≤ at → long ≤ at + 1
no_longer long at within = omega (arith, within)

-- of the link that was heard nothing is changed but what has come by it
one_kept : {S G T : Type 0} (old links : List (WorkerLink S G T)) (at : ℕ) (link heard : WorkerLink S G T) → link ≡ get_or links at link → heard.outbox ≡ link.outbox → heard.child ≡ link.child
    → length links ≡ length old → map sent_by links ≡ map sent_by old → promises_of links ≡ promises_of old
    → (length (set links at heard) ≡ length old) × (map sent_by (set links at heard) ≡ map sent_by old) × (promises_of (set links at heard) ≡ promises_of old)
one_kept old links at link heard is outbox child many posts promises = (
  length-set links at heard ∙ many,
  map-set_same sent_by links at heard link (ap (λ outbox. items_in (sent outbox)) (outbox ∙ ap (λ link. link.outbox) is)) ∙ posts,
  map-set_same (λ link. link.child.promise) links at heard link (ap (λ child. child.promise) (child ∙ ap (λ link. link.child) is)) ∙ promises,
)

pub loop-at-init : goal.loop-at-init
loop-at-init g c =
    let none = none_heard heard_by (λ queue. queue.items) _ _ _ refl c.requires.none in
    (refl, refl, refl, none, none_long _ _ c.args.queues.now.ok.0 (ap length c.requires.none), refl)

pub loop-at-preserved : goal.loop-at-preserved
loop-at-preserved g c =
    let before = c.loop-at.invariant in
    let links = c.loop-at.links.items in
    let link = c.index_mut.result.now in
    let heard = c.hear.new.self in
    let is : link ≡ get_or links c.loop-at.at link = c.index_mut.ensures.value in
    let kept = one_kept c.args.links.now.items links c.loop-at.at link heard is c.hear.ensures.outbox c.hear.ensures.child before.0 before.1 before.2 in
    elim c.match-hear.branch [
      | in-Ok w ↦
          let all = c.args.links.now in
          let below = below_all c.loop-at.at c.len-at-end.result (vec_len all) (length links) c.loop-at-test.true c.len-at-end.ensures (all.ok.0 ∙ sym before.0) in
          rw (w.queues-is, w.heard-is) (
            kept.0,
            kept.1,
            kept.2,
            on_ok_weaker c.loop-at.heard (λ heard_before. one_heard heard_by (λ queue. queue.items) c.args.links.now.items c.loop-at.at links c.loop-at.queues.items w.push_reserved.new.self.items w.in-Ok.queue link heard
                before.0 below is heard_before w.in-Ok.ensures.answers w.push_reserved.ensures.items) before.3,
            one_longer (vec_len c.loop-at.queues) (vec_len w.push_reserved.new.self) c.loop-at.at before.4 w.push_reserved.ensures.len,
            w.push_reserved.ensures.capacity ∙ before.5,
          )
      | in-Err w ↦
          rw (w.queues-is, w.heard-is) (kept.0, kept.1, kept.2, tt, no_longer (vec_len c.loop-at.queues) c.loop-at.at before.4, before.5)
    ]
