use Rattle.std.proofs.Common.{true, inr, map, arith, rules}
use Rattle.std.proofs.lemmas.Result.{IfOk-from_err}
use Rattle.rating.specs.Lines.{shown}
use Rattle.table_core.proofs.FrontLemmas.{some_written}
use Rattle.rating.proofs.StopLemmas.{may_stop, rows_stop}
use Rattle.rating.proofs.RateLemmas.{all_written, at_first, failed, failed_ends, in_part, row_more, rows_may, sent_more, stopped_ends, stops}
use Rattle.rating.proofs.rating.rate_rows.Goals as goal

pub loop-turn-init : goal.loop-turn-init
loop-turn-init g c = (
  c.new-score.ensures.bounded,
  rw c.new-score.ensures.exact (omega arith),
  λ header left has text width. rw c.new-score.ensures.exact (at_first g.I.Read.remaining c.args.rater.now.differing _ c.args.rows.now (g.O.Write.contents c.args.output.now) c.args.text.now.items has text),
)

pub returns-in-Err-clause-ends : goal.returns-in-Err-clause-ends
returns-in-Err-clause-ends g c = λ header left has text width.
    stops c.args.rater.now.differing _ (g.O.Write.contents c.args.output.now) _ c.from.result (rw c.from.ensures (rows_may _))
    (inr (failed g.I.Read.remaining c.args.rater.now.differing _ c.loop-turn.rows _ _ _ c.loop-turn.text.items c.loop-turn.score (c.loop-turn.invariant.2 header left has text width)
    (some_written _ _ c.loop-turn.text.items true (rw c.as_slice.ensures.value at c.in_ok-write_rest-in-Err.ensures.wrote))))

pub returns-in_err-write_rest-in-Err-clause-ends : goal.returns-in_err-write_rest-in-Err-clause-ends
returns-in_err-write_rest-in-Err-clause-ends g c = λ header left has text width.
    failed_ends c.args.rater.now.differing _ (g.O.Write.contents c.args.output.now) _ c.from_residual.result _ c.from_residual.ensures.1
    c.in_err-write_rest-in-Err.ensures.fault.why_is
    (failed g.I.Read.remaining c.args.rater.now.differing _ c.loop-turn.rows _ _ _ c.loop-turn.text.items c.loop-turn.score (c.loop-turn.invariant.2 header left has text width)
    (rw c.as_slice.ensures.value at c.in_err-write_rest-in-Err.ensures.fault.front))

pub returns-in_err-write_rest-clause-ends : goal.returns-in_err-write_rest-clause-ends
returns-in_err-write_rest-clause-ends g c = λ header left has text width.
    failed_ends c.args.rater.now.differing _ (g.O.Write.contents c.args.output.now) _ c.from_residual-in_err-write_rest.result _ c.from_residual-in_err-write_rest.ensures.1
    c.in_err-write_rest.ensures.fault.why_is
    (failed g.I.Read.remaining c.args.rater.now.differing _ c.loop-turn.rows _ _ _ c.loop-turn.text.items c.loop-turn.score (c.loop-turn.invariant.2 header left has text width)
    (rw c.as_slice-then-not-found.ensures.value at c.in_err-write_rest.ensures.fault.front))

pub returns-then-not-found-clause-ends : goal.returns-then-not-found-clause-ends
returns-then-not-found-clause-ends g c = λ header left has text width.
    let way = c.loop-turn.invariant.2 header left has text width in
    all_written g.I.Read.remaining c.args.rater.now.differing _ c.loop-turn.rows _ _ _ c.loop-turn.text.items c.loop-turn.score way
    (rw c.if-not-found.true at (c.in-Ok.ensures.takes (map shown way.left) way.has)) (rw c.as_slice-then-not-found.ensures.value at c.in_ok-write_rest.ensures.wrote)

pub returns-in_err-add_row-clause-ends : goal.returns-in_err-add_row-clause-ends
returns-in_err-add_row-clause-ends g c = λ header left has text width.
    stopped_ends c.args.rater.now.differing _ (g.O.Write.contents c.args.output.now) _ c.from_residual-in_err-add_row.result _ c.from_residual-in_err-add_row.ensures.1 tt
    (inr (in_part g.I.Read.remaining c.args.rater.now.differing _ c.loop-turn.rows _ _ c.loop-turn.text.items c.loop-turn.score (c.loop-turn.invariant.2 header left has text width)))

pub returns-in_err-send-clause-ends : goal.returns-in_err-send-clause-ends
returns-in_err-send-clause-ends g c = λ header left has text width.
    let way = c.loop-turn.invariant.2 header left has text width in
    let more = row_more g.I.Read.remaining c.args.rater.now.differing _ c.loop-turn.rows c.next_row.new.self _ _ c.loop-turn.text.items c.add_row.new.text.items c.loop-turn.score c.add_row.new.score way
    (rw c.if-not-found.false at (c.in-Ok.ensures.takes (map shown way.left) way.has)) (rw (← width, c.row.ensures) at c.in_ok-add_row.ensures.adds) in
    failed_ends c.args.rater.now.differing _ (g.O.Write.contents c.args.output.now) _ c.from_residual-in_err-send.result _ c.from_residual-in_err-send.ensures.1
    c.in_err-send.ensures.fault.why_is
    (failed g.I.Read.remaining c.args.rater.now.differing _ c.next_row.new.self _ _ _ c.add_row.new.text.items c.add_row.new.score more c.in_err-send.ensures.fault.front)

pub loop-turn-preserved : goal.loop-turn-preserved
loop-turn-preserved g c = (
  c.add_row.ensures.bounded,
  omega (arith, c.in_ok-add_row.ensures.one, c.loop-turn.invariant.1),
  λ header left has text width.
      let way = c.loop-turn.invariant.2 header left has text width in
      let more = row_more g.I.Read.remaining c.args.rater.now.differing _ c.loop-turn.rows c.next_row.new.self _ _ c.loop-turn.text.items c.add_row.new.text.items c.loop-turn.score c.add_row.new.score way
      (rw c.if-not-found.false at (c.in-Ok.ensures.takes (map shown way.left) way.has)) (rw (← width, c.row.ensures) at c.in_ok-add_row.ensures.adds) in
      sent_more g.I.Read.remaining c.args.rater.now.differing _ c.next_row.new.self _ _ _ c.add_row.new.text.items c.send.new.text.items c.add_row.new.score more c.in_ok-send.ensures.sends,
)

pub returns-clause-ends : goal.returns-clause-ends
returns-clause-ends g c = λ header left has text width.
    inr (in_part g.I.Read.remaining c.args.rater.now.differing _ c.loop-turn.rows _ _ c.loop-turn.text.items c.loop-turn.score (c.loop-turn.invariant.2 header left has text width))

pub returns-in_err-write_rest-in-Err-clause-stopped : goal.returns-in_err-write_rest-in-Err-clause-stopped
returns-in_err-write_rest-in-Err-clause-stopped g c = may_stop c.from_residual.result _ c.from_residual.ensures.1 (rw c.in_err-write_rest-in-Err.ensures.fault.why_is tt)

pub returns-in_err-write_rest-in-Err-clause-bounded : goal.returns-in_err-write_rest-in-Err-clause-bounded
returns-in_err-write_rest-in-Err-clause-bounded g c = IfOk-from_err c.from_residual.result _ c.from_residual.ensures.0

pub returns-in_err-write_rest-clause-stopped : goal.returns-in_err-write_rest-clause-stopped
returns-in_err-write_rest-clause-stopped g c = may_stop c.from_residual-in_err-write_rest.result _ c.from_residual-in_err-write_rest.ensures.1 (rw c.in_err-write_rest.ensures.fault.why_is tt)

pub returns-in_err-write_rest-clause-bounded : goal.returns-in_err-write_rest-clause-bounded
returns-in_err-write_rest-clause-bounded g c = IfOk-from_err c.from_residual-in_err-write_rest.result _ c.from_residual-in_err-write_rest.ensures.0

pub returns-in_err-add_row-clause-stopped : goal.returns-in_err-add_row-clause-stopped
returns-in_err-add_row-clause-stopped g c = may_stop c.from_residual-in_err-add_row.result _ c.from_residual-in_err-add_row.ensures.1 tt

pub returns-in_err-add_row-clause-bounded : goal.returns-in_err-add_row-clause-bounded
returns-in_err-add_row-clause-bounded g c = IfOk-from_err c.from_residual-in_err-add_row.result _ c.from_residual-in_err-add_row.ensures.0

pub returns-in_err-send-clause-stopped : goal.returns-in_err-send-clause-stopped
returns-in_err-send-clause-stopped g c = may_stop c.from_residual-in_err-send.result _ c.from_residual-in_err-send.ensures.1 (rw c.in_err-send.ensures.fault.why_is tt)

pub returns-in_err-send-clause-bounded : goal.returns-in_err-send-clause-bounded
returns-in_err-send-clause-bounded g c = IfOk-from_err c.from_residual-in_err-send.result _ c.from_residual-in_err-send.ensures.0

pub returns-in-Err-clause-stopped : goal.returns-in-Err-clause-stopped
returns-in-Err-clause-stopped g c = rw c.from.ensures (rows_stop _)

pub returns-in-Err-clause-bounded : goal.returns-in-Err-clause-bounded
returns-in-Err-clause-bounded g c = tt

pub returns-then-not-found-clause-stopped : goal.returns-then-not-found-clause-stopped
returns-then-not-found-clause-stopped g c = tt

pub returns-then-not-found-clause-bounded : goal.returns-then-not-found-clause-bounded
returns-then-not-found-clause-bounded g c = c.loop-turn.invariant.0

pub returns-clause-stopped : goal.returns-clause-stopped
returns-clause-stopped g c = tt

pub returns-clause-bounded : goal.returns-clause-bounded
returns-clause-bounded g c = tt

pub add_row-requires-clause-bounded : goal.add_row-requires-clause-bounded
add_row-requires-clause-bounded g c = c.loop-turn.invariant.0

pub add_row-requires-clause-room : goal.add_row-requires-clause-room
add_row-requires-clause-room g c = search rules
