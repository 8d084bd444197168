use Rattle.std.proofs.Common.{◌≡◌, ◌≢◌, ◌<◌, ◌++◌, length, true≢false, sym, ap, subst, ◌∙◌, arith, length-take, []}
use Rattle.std.proofs.BufReadLemmas.{Consumes_through, take_through_nonempty, IsAtEnd-of_take_through}
use Rattle.std.proofs.KnownBytes.{Consumes-trans}
use Rattle.std.proofs.lemmas.Bool.{eqb-false, eqb-true}
use Rattle.std.proofs.lemmas.List.Elements.{All-append}
use Rattle.std.specs.Io.BufRead.{take_through}
use Rattle.live_answers.proofs.LineLemmas.{keeps_more}
use Rattle.live_answers.specs.Lines.{kept}
use Rattle.table_core.proofs.Known.{if_known}
use Rattle.live_answers.proofs.line.take_line.Goals as goal

pub take_part-requires : goal.take_part-requires
take_part-requires g c =
    let (done, is, none, took) = c.loop-turn.invariant in
    omega (arith, ap length is, length-take 4097 done)

pub loop-turn-preserved : goal.loop-turn-preserved
loop-turn-preserved g c =
    let (done, is, none, took) = c.loop-turn.invariant in
    let (part, grown, stops, takes, none_more, ends, end) = c.in_ok-take_part.ensures.takes in (
      done ++ part,
      keeps_more 4097 done part _ _ is grown,
      All-append (λ byte. byte ≢ 10) done part none (none_more (λ whole. true≢false (sym whole ∙ c.if-branch.false))),
      Consumes-trans _ _ _ _ _ took takes,
    )

pub returns-then-branch-clause-taken : goal.returns-then-branch-clause-taken
returns-then-branch-clause-taken g c =
    let (done, is, none, took) = c.loop-turn.invariant in
    let (part, grown, stops, takes, none_more, ends, end) = c.in_ok-take_part.ensures.takes in
    let whole = done ++ part in
    let not_zero : c.take_part.new.line.len ≢ 0 = eqb-false _ _ (sym c.is_empty.ensures ∙ c.if-is_empty.false) in
    let line_is = keeps_more 4097 done part _ _ is grown in
    let read = Consumes_through 10 _ _ _ done part took none takes stops (ends c.if-branch.true) (end c.if-branch.true) in
    λ _. if_known (g.I.Read.remaining c.args.input.now) _ (λ text known.
    let through : whole ≡ take_through 10 text = rw known at read.0 in
    let left = rw known at read.1 in
    let some : 0 < length whole = omega (arith, ap length line_is, length-take 4097 whole, not_zero, c.take_part.new.line.ok) in (
      take_through_nonempty 10 text (subst (λ l. 0 < length l) through some),
      c.in_ok-end_line.ensures whole line_is ∙ ap kept through,
      left,
    ))

pub returns-then-is_empty-clause-end : goal.returns-then-is_empty-clause-end
returns-then-is_empty-clause-end g c =
    let (done, is, none, took) = c.loop-turn.invariant in
    let (part, grown, stops, takes, none_more, ends, end) = c.in_ok-take_part.ensures.takes in
    let line = c.take_part.new.line in
    let zero : line.len ≡ 0 = eqb-true _ _ (sym c.is_empty.ensures ∙ c.if-is_empty.true) in
    let line_is = keeps_more 4097 done part _ _ is grown in
    let whole = c.if-branch.true in
    let read = Consumes_through 10 _ _ _ done part took none takes stops (ends whole) (end whole) in
    λ _. IsAtEnd-of_take_through 10 (g.I.Read.remaining c.args.input.now) [] (done ++ part) read.0
    (omega (arith, ap length line_is, length-take 4097 (done ++ part), zero, line.ok))
