use Rattle.std.proofs.Common.{◌≡◌, ◌≤◌, ◌++◌, ◌∙◌, ℕ, [], append-nil, append_assoc, arith, drop, refl, rules, sym, ◌+◌}
use Rattle.std.specs.Vec.{vec_capacity, vec_len}
use Rattle.cap_values.specs.declared.message.SsfMsg.{SsfMsg}
use Rattle.ssf_core.specs.declared.item.Item.{Item}
use Rattle.ssf_core.specs.declared.item.Item.TheVariants as sent
use Rattle.script_player.specs.Posts.{post_of, posts_of}
use Rattle.script_player.proofs.Items.{posts_of-drop}
use Rattle.script_player.proofs.network.post.Goals.{in-Msg, in_default}
use Rattle.script_player.proofs.network.post.Goals as goal

-- what is no message is not posted
none_posted : (call at : ℕ) (item : Item) → ((msg : SsfMsg) → item ≡ sent.Msg msg → ⊥) → post_of call at item ≡ []
none_posted call at (sent.Msg msg) other = absurd (other msg refl)
none_posted call at sent.Proceed other = refl
none_posted call at (sent.Clear cause) other = refl

pub loop-out-preserved : goal.loop-out-preserved
loop-out-preserved c =
    let out = c.out-item.result in
    let more = posts_of-drop c.args.call c.loop-out.out-index c.args.sent.now out c.loop-out-test.true c.out-item.is in
    let (items, room, capacity) : (c.match-out.given.items ≡ c.loop-out.given.items ++ post_of c.args.call out.at out.item)
    × (vec_len c.match-out.given ≤ vec_len c.loop-out.given + 1) × (vec_capacity c.loop-out.given ≤ vec_capacity c.match-out.given) = elim c.match-out.branch [
      | in-Msg w ↦ rw (w.given-is, w.in-Msg.is) (search rules)
      | in_default w ↦ rw (w.given-is, none_posted c.args.call out.at out.item w.in_default.not-Msg) (sym (append-nil c.loop-out.given.items), omega arith, omega arith)
    ] in (
      c.loop-out.invariant.0 ∙ (rw (more, items) (sym (append_assoc c.loop-out.given.items (post_of c.args.call out.at out.item) (posts_of c.args.call (drop (c.loop-out.out-index + 1) c.args.sent.now))))),
      omega (arith, c.loop-out.invariant.1, room, capacity),
    )
