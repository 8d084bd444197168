use Rattle.std.proofs.Common.{◌+◌, ◌-◌, ◌++◌, ◌∙◌, append-nil, drop, map, string_bytes, sym, ap, arith}
use Rattle.std.proofs.lemmas.List.{drop_all}
use Rattle.live_answers.proofs.GroupLemmas.{at_least, line_more, next_left, no_more, rows_more}
use Rattle.live_answers.proofs.saying.say.Goals as goal
use Rattle.live_answers.specs.Groups.{group_rows}
use Rattle.live_answers.specs.Said.{line_view_of}
use Rattle.run_texts.proofs.RowLemmas.{got}

pub loop-one-preserved : goal.loop-one-preserved
loop-one-preserved g c =
    let (low, high, line, rows) = c.loop-one.invariant in
    let said = c.args.said.now in
    let answers = c.args.answers.now in
    let replay = c.args.replay in
    let first = c.args.first in
    let i = c.loop-one.one-index in
    let place = c.loop-one.place in
    let one = c.one-item.result in
    let here = c.next_line-line.ensures in
    let behind = c.next_place-place.ensures in
    let next = next_left said i one c.loop-one-test.true c.one-item.is in
    let more = line_more replay c.loop-one.line place one (drop i said) (drop (i + 1) said) c.next_line-line.result c.next_place-place.result here behind next in
    let printed = rows_more replay first answers c.loop-one.line place one (drop (i + 1) said) (string_bytes c.loop-one.text) (string_bytes c.write_line_rows.new.text)
    c.next_line-line.result c.next_place-place.result _ here behind (got answers (place - first) c.get-answer.result c.get-answer.ensures.lookup) c.in_ok-write_line_rows.ensures in (
      omega (arith, low, at_least (line_view_of one) place, behind),
      omega (arith, high, no_more (line_view_of one) place, behind),
      more ∙ line,
      printed ∙ ap (λ l. string_bytes c.loop-one.text ++ group_rows replay first answers c.loop-one.line place (map line_view_of l)) (sym next) ∙ rows,
    )

pub returns-then-send-clause-line : goal.returns-then-send-clause-line
returns-then-send-clause-line g c =
    let (low, high, line, rows) = c.loop-one.invariant in
    rw (drop_all c.loop-one.one-index c.args.said.now c.loop-one-test.false) at line

pub returns-then-send-clause-printed : goal.returns-then-send-clause-printed
returns-then-send-clause-printed g c =
    let (low, high, line, rows) = c.loop-one.invariant in
    let all = rw (drop_all c.loop-one.one-index c.args.said.now c.loop-one-test.false) at rows in
    rw (c.as_bytes.ensures.value, ← append-nil (string_bytes c.loop-one.text), all) at c.if-send.ensures

pub returns-clause-cut : goal.returns-clause-cut
returns-clause-cut g c =
    let (low, high, line, rows) = c.loop-one.invariant in
    let all = rw (drop_all c.loop-one.one-index c.args.said.now c.loop-one-test.false) at rows in
    rw (c.as_bytes.ensures.value, ← append-nil (string_bytes c.loop-one.text), all) at c.if-send.ensures
