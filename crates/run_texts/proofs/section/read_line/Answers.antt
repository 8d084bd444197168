use Rattle.std.proofs.Common.{◌≢◌, [], ◌∷◌, sym, ◌∙◌, arith, append-nil}
use Rattle.std.proofs.BufReadLemmas.{Consumes_through}
use Rattle.std.proofs.lemmas.List.Elements.{All-nil, All-push}
use Rattle.std.proofs.KnownBytes.{Consumes-trans}
use Rattle.std.proofs.lemmas.List.{length_push}
use Rattle.std.proofs.lemmas.Result.{IfOk-from_err}
use Rattle.table_core.proofs.Known.{if_known}
use Rattle.run_texts.proofs.FirstSectionLemmas.{ends_some, fails_by, kept_none, longer}
use Rattle.run_texts.proofs.section.read_line.Goals as goal

pub returns-in_default-clause-reads : goal.returns-in_default-clause-reads
returns-in_default-clause-reads g c =
    let (within, none, taken) = c.loop-turn.invariant in
    let (end, keeps) = rw c.in_default.is at c.in_ok-byte.ensures.takes in
    let read = Consumes_through 10 _ _ _ c.loop-turn.line.items [] taken none (kept_none _ _ keeps) (All-nil (λ x. x ≢ 10)) (λ some. absurd (omega (arith, some))) (λ _. ends_some _ _ end keeps) in
    if_known (g.I.Read.remaining c.args.input.now) _ (λ text known. (sym (append-nil c.loop-turn.line.items) ∙ rw known at read.0, rw known at read.1))

pub returns-then-len-most-clause-reads : goal.returns-then-len-most-clause-reads
returns-then-len-most-clause-reads g c =
    let (within, none, taken) = c.loop-turn.invariant in
    let took = rw c.in-Some.is at c.in_ok-byte.ensures.takes in
    longer _ _ _ c.loop-turn.line.items c.in-Some.byte c.args.most taken none took (omega (arith, c.if-len-most.true, c.len.ensures, c.loop-turn.line.ok))

pub returns-then-byte-eq10-clause-reads : goal.returns-then-byte-eq10-clause-reads
returns-then-byte-eq10-clause-reads g c =
    let (within, none, taken) = c.loop-turn.invariant in
    let took = rw c.in-Some.is at c.in_ok-byte.ensures.takes in
    let read = Consumes_through 10 _ _ _ c.loop-turn.line.items (c.in-Some.byte ∷ []) taken none took (All-nil (λ x. x ≢ 10)) (λ some. c.if-byte-eq10.true) (λ no. absurd (omega (arith, no))) in
    if_known (g.I.Read.remaining c.args.input.now) _ (λ text known. (rw c.in_ok-push.ensures.items (rw known at read.0), rw known at read.1))

pub loop-turn-preserved : goal.loop-turn-preserved
loop-turn-preserved g c =
    let (within, none, taken) = c.loop-turn.invariant in
    let took = rw c.in-Some.is at c.in_ok-byte.ensures.takes in
    let line = c.loop-turn.line in
    rw c.in_ok-push.ensures.items (
      omega (arith, c.len.ensures, line.ok, length_push line.items c.in-Some.byte),
      All-push (λ x. x ≢ 10) line.items c.in-Some.byte none c.if-byte-eq10.false,
      Consumes-trans _ _ _ line.items _ taken took,
    )

pub returns : goal.returns
returns g c = record { reads = tt; within = tt; fault = tt }

pub returns-in_err-byte : goal.returns-in_err-byte
returns-in_err-byte g c = record {
  reads = IfOk-from_err c.from_residual.result _ c.from_residual.ensures.0;
  within = IfOk-from_err c.from_residual.result _ c.from_residual.ensures.0;
  fault = fails_by c.from_residual.result _ c.from_residual.ensures.1 c.in_err-byte.ensures.fault;
}

pub returns-in_err-push : goal.returns-in_err-push
returns-in_err-push g c = record {
  reads = IfOk-from_err c.from_residual-in_err-push.result _ c.from_residual-in_err-push.ensures.0;
  within = IfOk-from_err c.from_residual-in_err-push.result _ c.from_residual-in_err-push.ensures.0;
  fault = fails_by c.from_residual-in_err-push.result _ c.from_residual-in_err-push.ensures.1 tt;
}
