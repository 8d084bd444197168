use Rattle.std.proofs.Common.{take}
use Rattle.book_texts.proofs.TextLemmas.{next_item}
use Rattle.run_outputs.proofs.reports.reports_in.Goals as goal

pub loop-at-preserved : goal.loop-at-preserved
loop-at-preserved c =
    let given = c.args.given.now in
    let i = c.loop-at.at-index in
    λ call. rw (next_item given i c.loop-at-item.result c.loop-at-test.true c.loop-at-item.is)
    (c.in_ok-hear.ensures (take i given) c.loop-at.invariant call)
