use Rattle.std.proofs.Common.{◌∙◌, sym, arith}
use Rattle.live_answers.proofs.LineLemmas.{ended_kept, long_kept, unended_kept}
use Rattle.live_answers.proofs.line.end_line.Goals.{else-len-le-MAX_LINE-via-then-len-le-MAX_LINE+else-not-is_ended, else-len-le-MAX_LINE-via-else-len-le-MAX_LINE}
use Rattle.live_answers.proofs.line.end_line.Goals as goal

pub returns-in_ok-push : goal.returns-in_ok-push
returns-in_ok-push c = λ whole is.
    let bare = rw c.as_slice.ensures.value at (sym c.is_ended.ensures ∙ c.if-not-is_ended.true) in
    rw c.in_ok-push.ensures.items (unended_kept c.args.line.now.items whole is (omega (arith, c.if-len-le-MAX_LINE.true, c.len.ensures, c.args.line.now.ok)) bare)

pub returns-else-len-le-MAX_LINE : goal.returns-else-len-le-MAX_LINE
returns-else-len-le-MAX_LINE c = λ whole is. elim c.else-len-le-MAX_LINE.branch [
  | else-len-le-MAX_LINE-via-then-len-le-MAX_LINE+else-not-is_ended w ↦
      let has = rw w.as_slice.ensures.value at (sym w.is_ended.ensures ∙ w.if-not-is_ended.false) in
      ended_kept c.args.line.now.items whole is (omega (arith, w.if-len-le-MAX_LINE.true, c.len.ensures, c.args.line.now.ok)) has
  | else-len-le-MAX_LINE-via-else-len-le-MAX_LINE w ↦
      long_kept c.args.line.now.items whole is (omega (arith, w.if-len-le-MAX_LINE.false, c.len.ensures, c.args.line.now.ok))
]
