use Rattle.std.proofs.Common.{◌≡◌, ◌++◌, ℕ, List, [], Some, None, refl, sym, append-nil}
use Rattle.std.proofs.lemmas.Option.{slice_get_past}
use Rattle.cap_values.specs.declared.message.SsfMsg.{SsfMsg}
use Rattle.cap_values.specs.declared.operation.ScfOp.{ScfOp}
use Rattle.run_values.specs.declared.post.Body.{Body}
use Rattle.run_values.specs.declared.post.Body.TheVariants as body
use Rattle.script_player.specs.Deliveries.{deliveries_of, deliveries_to}
use Rattle.script_player.proofs.AnswerLemmas.{deliveries_of-step, slice_get-at}
use Rattle.script_player.proofs.player.put_down.Goals as goal
use Rattle.script_player.proofs.player.put_down.Goals.{in-Some+in-Ssf+in_ok-send, in-Some+in_default-body, in_default}

-- a recharge has no operations
none_delivered : (delay : ℕ) (ops : List ScfOp) (at : ℕ) (what : Body) → ((call : ℕ) (msg : SsfMsg) → what ≡ body.Ssf call msg → ⊥) → deliveries_to delay ops at what ≡ []
none_delivered delay ops at (body.Ssf call msg) other = absurd (other call msg refl)
none_delivered delay ops at (body.Recharge account amount until) other = refl

pub loop-answer-preserved : goal.loop-answer-preserved
loop-answer-preserved c =
    elim c.match-get.branch [
      | in-Some+in-Ssf+in_ok-send w ↦ deliveries_of-step c.args.delay c.loop-answer.answer-index c.args.given.now c.args.answers.now c.answer-item.result (Some w.in-Some.item.now)
          (c.args.deliveries.now.items ++ deliveries_of c.args.delay c.args.given.now c.args.answers.now) c.loop-answer.deliveries.items c.match-get.deliveries.items c.loop-answer-test.true
          c.answer-item.is (slice_get-at c.args.given.now c.answer-item.result.number w.in-Some.item.now w.in-Some.ensures.lookup.3.0 w.in-Some.ensures.lookup.1) c.loop-answer.invariant
          (rw (w.deliveries-is, w.in-Ssf.is, ← w.from.ensures) w.in_ok-send.ensures.sent)
      | in-Some+in_default-body w ↦ deliveries_of-step c.args.delay c.loop-answer.answer-index c.args.given.now c.args.answers.now c.answer-item.result (Some w.in-Some.item.now)
          (c.args.deliveries.now.items ++ deliveries_of c.args.delay c.args.given.now c.args.answers.now) c.loop-answer.deliveries.items c.match-get.deliveries.items c.loop-answer-test.true
          c.answer-item.is (slice_get-at c.args.given.now c.answer-item.result.number w.in-Some.item.now w.in-Some.ensures.lookup.3.0 w.in-Some.ensures.lookup.1) c.loop-answer.invariant
          (rw (w.deliveries-is, none_delivered c.args.delay _ w.in-Some.item.now.0 w.in-Some.item.now.1 w.in_default-body.not-Ssf) (sym (append-nil c.loop-answer.deliveries.items)))
      | in_default w ↦ deliveries_of-step c.args.delay c.loop-answer.answer-index c.args.given.now c.args.answers.now c.answer-item.result None
          (c.args.deliveries.now.items ++ deliveries_of c.args.delay c.args.given.now c.args.answers.now) c.loop-answer.deliveries.items c.match-get.deliveries.items c.loop-answer-test.true
          c.answer-item.is (slice_get_past c.args.given.now c.answer-item.result.number w.in_default.ensures.lookup.3) c.loop-answer.invariant
          (rw (w.deliveries-is) (sym (append-nil c.loop-answer.deliveries.items)))
    ]
