use Rattle.std.proofs.Common.{◌∙◌, refl, sym, arith}
use Rattle.csv.specs.Records.{fields_of}
use Rattle.rating.proofs.ColumnLemmas.{next_place, no_place}
use Rattle.rating.proofs.columns.place_from.Goals as goal

pub returns-then-has_word-clause-value : goal.returns-then-has_word-clause-value
returns-then-has_word-clause-value c = sym (c.loop-place.invariant.1 ∙ next_place (fields_of c.args.header.now) c.args.name.now c.loop-place.place (rw c.len-place-end.ensures at c.loop-place-test.true)
    ∙ rw (sym c.has_word.ensures ∙ c.if-has_word.true) refl)

pub loop-place-preserved : goal.loop-place-preserved
loop-place-preserved c = (
  omega (arith, c.loop-place.invariant.0),
  c.loop-place.invariant.1 ∙ next_place (fields_of c.args.header.now) c.args.name.now c.loop-place.place (rw c.len-place-end.ensures at c.loop-place-test.true)
      ∙ rw (sym c.has_word.ensures ∙ c.if-has_word.false) refl,
)

pub returns-clause-value : goal.returns-clause-value
returns-clause-value c = sym (c.loop-place.invariant.1 ∙ no_place (fields_of c.args.header.now) c.args.name.now c.loop-place.place (rw c.len-place-end.ensures at c.loop-place-test.false))
