use Rattle.std.proofs.Common.{arith, sym, ◌∙◌}
use Rattle.run_texts.specs.Sections.{lines_in_text}
use Rattle.run_texts.proofs.SectionLemmas.{divided_here, goes_on, not_divided, nothing_before}
use Rattle.run_texts.proofs.input.split_section.Goals as goal

pub loop-start-init : goal.loop-start-init
loop-start-init c = (omega arith, nothing_before (lines_in_text c.args.text.now))

pub returns-then-is_divider-clause-divided : goal.returns-then-is_divider-clause-divided
returns-then-is_divider-clause-divided c =
    divided_here c.args.text.now c.loop-start.start c.line_length.result c.line_length.ensures.line c.loop-start.invariant.1 (sym c.is_divider.ensures ∙ c.if-is_divider.true)

pub loop-start-preserved : goal.loop-start-preserved
loop-start-preserved c = (
  omega (arith, c.line_length.ensures.within, c.loop-start-test.true),
  goes_on c.args.text.now c.loop-start.start c.line_length.result c.line_length.ensures.line c.loop-start.invariant.1 (sym c.is_divider.ensures ∙ c.if-is_divider.false),
)

pub returns-clause-whole : goal.returns-clause-whole
returns-clause-whole c = not_divided c.args.text.now c.loop-start.start c.loop-start-test.false c.loop-start.invariant.1
