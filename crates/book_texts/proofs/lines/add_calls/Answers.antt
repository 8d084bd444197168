use Rattle.std.proofs.Common.{◌++◌, ap, append-nil, append_assoc, map, sym, take, ◌∙◌}
use Rattle.std.proofs.lemmas.List.{map_push, take_all, take_more}
use Rattle.account_core.specs.declared.call_sum.CallSum.{CallSum}
use Rattle.account_core.specs.declared.call_sum.Fate.TheVariants as fate
use Rattle.book_texts.specs.RunTexts.{call_line_of}
use Rattle.book_texts.proofs.lines.add_calls.Goals as goal

pub loop-sum-init : goal.loop-sum-init
loop-sum-init c = sym (append-nil c.args.lines.now.items)

pub loop-sum-preserved : goal.loop-sum-preserved
loop-sum-preserved c =
    let old = c.args.lines.now.items in
    let sums = c.args.sums.now in
    let none : CallSum = record { call = 0; paid = 0; fate = fate.Holding } in
    let line = call_line_of c.args.account in
    rw (c.in_ok-push.ensures.items, c.loop-sum.invariant)
    (append_assoc old _ _
    ∙ ap (λ l. old ++ l) (sym (map_push line (take c.loop-sum.sum-index sums) _))
    ∙ ap (λ l. old ++ map line l) (sym (take_more sums c.loop-sum.sum-index none c.loop-sum-test.true)))

pub returns : goal.returns
returns c =
    c.loop-sum.invariant
    ∙ ap (λ l. c.args.lines.now.items ++ map (call_line_of c.args.account) l) (take_all c.loop-sum.sum-index c.args.sums.now c.loop-sum-test.false)
