use Rattle.std.proofs.Common.{◌≡◌, ◌+◌, ◌∙◌, [], Ok, length, sym, ap, arith}
use Rattle.live_answers.proofs.Chain.{none_heard}
use Rattle.live_answers.proofs.ReplayLemmas.{first_is_wrong, goes_on}
use Rattle.live_answers.proofs.checking.check_replay.Goals as goal
use Rattle.live_answers.specs.Checks.{first_wrong}

pub returns-then-not-branch : goal.returns-then-not-branch
returns-then-not-branch c =
    let next = c.loop-next.next in
    let (empty, wrong, many) = c.loop-next.invariant in
    let at_end : c.loop-next.input.now ≡ [] = c.take_line.ensures.end (c.in_ok-take_line.was ∙ ap Ok c.if-not-branch.true) in
    let none = none_heard next c.loop-next.last c.loop-next.input.now at_end in
    let all : next + 0 ≡ next = omega arith in
    (wrong ∙ ap (first_wrong (next + 1)) none, sym (many ∙ ap (λ h. next + length h) none ∙ all))

pub returns-in-Err : goal.returns-in-Err
returns-in-Err c =
    let (empty, wrong, many) = c.loop-next.invariant in
    let (some, line, left) = c.take_line.ensures.taken (c.in_ok-take_line.was ∙ ap Ok c.if-not-branch.false) in
    wrong ∙ first_is_wrong c.loop-next.next c.loop-next.last c.loop-next.input.now _ _ c.in-Err.kind some (c.as_slice.ensures.value ∙ line) c.in_ok-said.ensures.says (sym c.moment_of.ensures ∙ c.in-Err.is)

pub loop-next-preserved : goal.loop-next-preserved
loop-next-preserved c =
    let next = c.loop-next.next in
    let (empty, wrong, many) = c.loop-next.invariant in
    let (some, line, left) = c.take_line.ensures.taken (c.in_ok-take_line.was ∙ ap Ok c.if-not-branch.false) in
    let goes = goes_on next c.loop-next.last c.in-Ok.at c.loop-next.input.now _ c.take_line.new.input.now _ some (c.as_slice.ensures.value ∙ line) c.in_ok-said.ensures.says (sym c.moment_of.ensures ∙ c.in-Ok.is) left in
    (c.clear.ensures.items, wrong ∙ goes.wrong, omega (arith, many, goes.many))
