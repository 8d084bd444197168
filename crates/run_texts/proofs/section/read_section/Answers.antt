use Rattle.std.proofs.Common.{◌≡◌, ◌==◌, ◌-◌, Global, ℕ, true, sym, ◌∙◌, arith, length-append}
use Rattle.std.proofs.lemmas.Bool.Decides.{nat_tests}
use Rattle.std.proofs.lemmas.Bool.{eqb-false}
use Rattle.std.specs.Prelude.{Vec}
use Rattle.table_core.proofs.Known.{if_known}
use Rattle.run_texts.proofs.FirstSectionLemmas.{divided, line_more, stopped_by, too_long, under_way, undivided, within_line}
use Rattle.run_texts.proofs.section.read_section.Goals as goal

pub returns-in_default : goal.returns-in_default
returns-in_default g c = if_known (g.I.Read.remaining c.args.input.now) _ (λ text known.
    too_long (16777216 - c.len.result) text c.loop-turn.text.items _ (g.I.Read.remaining c.read_line.new.input) (c.loop-turn.invariant.1 text known) (rw c.in_default.is at c.in_ok-line.ensures.reads)
    (omega (arith, c.loop-turn.invariant.0, c.len.ensures, c.loop-turn.text.ok)))

pub returns-then-is_divider : goal.returns-then-is_divider
returns-then-is_divider g c = if_known (g.I.Read.remaining c.args.input.now) _ (λ text known.
    divided (16777216 - c.len.result) text c.loop-turn.text.items c.in-Some.line.items _ (g.I.Read.remaining c.read_line.new.input) (c.loop-turn.invariant.1 text known) (rw c.in-Some.is at c.in_ok-line.ensures.reads)
    (within_line _ _ _ c.loop-turn.invariant.0 (rw c.in-Some.is at c.in_ok-line.ensures.within) (omega (arith, c.len.ensures, c.loop-turn.text.ok)))
    (rw c.as_slice.ensures.value at (sym c.is_divider.ensures ∙ c.if-is_divider.true)))

pub returns-then-is_empty : goal.returns-then-is_empty
returns-then-is_empty g c = if_known (g.I.Read.remaining c.args.input.now) _ (λ text known.
    undivided (16777216 - c.len.result) text c.loop-turn.text.items c.in-Some.line.items _ (g.I.Read.remaining c.read_line.new.input) (c.loop-turn.invariant.1 text known) (rw c.in-Some.is at c.in_ok-line.ensures.reads)
    c.loop-turn.invariant.0 (let none : (c.in-Some.line.len == 0) ≡ true = sym c.is_empty.ensures ∙ c.if-is_empty.true in let zero : c.in-Some.line.len ≡ 0 = grind (arith, nat_tests) in omega (arith, zero, c.in-Some.line.ok)))

pub loop-turn-preserved : goal.loop-turn-preserved
loop-turn-preserved g c =
    let within = within_line _ _ _ c.loop-turn.invariant.0 (rw c.in-Some.is at c.in_ok-line.ensures.within) (omega (arith, c.len.ensures, c.loop-turn.text.ok)) in
    rw (c.in_ok-extend_from_slice.ensures.items, c.as_slice-in-loop-turn.ensures.value) (
      omega (arith, within, length-append c.loop-turn.text.items c.in-Some.line.items),
      λ text known. line_more (16777216 - c.len.result) text c.loop-turn.text.items c.in-Some.line.items _ (g.I.Read.remaining c.read_line.new.input) (c.loop-turn.invariant.1 text known) (rw c.in-Some.is at c.in_ok-line.ensures.reads)
          (λ none. eqb-false _ _ (sym c.is_empty.ensures ∙ c.if-is_empty.false) (omega (arith, none, c.in-Some.line.ok)))
          (rw c.as_slice.ensures.value at (sym c.is_divider.ensures ∙ c.if-is_divider.false)),
    )

pub returns : goal.returns
returns g c = if_known (g.I.Read.remaining c.args.input.now) _ (λ _ _. tt)

pub returns-in_err-line : goal.returns-in_err-line
returns-in_err-line g c = if_known (g.I.Read.remaining c.args.input.now) _ (λ text known.
    stopped_by (λ (section : Vec ℕ Global). section.items) text _ c.from_residual.result _ c.from_residual.ensures.1 c.in_err-line.ensures.fault)

pub returns-in_err-extend_from_slice : goal.returns-in_err-extend_from_slice
returns-in_err-extend_from_slice g c = if_known (g.I.Read.remaining c.args.input.now) _ (λ text known.
    stopped_by (λ (section : Vec ℕ Global). section.items) text _ c.from_residual-in_err-extend_from_slice.result _ c.from_residual-in_err-extend_from_slice.ensures.1 tt)

pub loop-turn-init : goal.loop-turn-init
loop-turn-init g c =
    rw c.new-text.ensures.items (omega arith, λ text known. under_way text _ known)
