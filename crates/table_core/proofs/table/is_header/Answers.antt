use Rattle.std.proofs.Common.{◌∙◌, [], refl, sym}
use Rattle.csv.specs.Records.{fields_of}
use Rattle.table_core.proofs.HeaderLemmas.{next_name}
use Rattle.table_core.proofs.table.is_header.Goals as goal

pub returns-then-not-has_word : goal.returns-then-not-has_word
returns-then-not-has_word c =
    sym (c.loop-place.invariant.1 ∙ next_name c.args.names.now (fields_of c.args.row.now) c.loop-place.place (record { ref_ptr = (0, 0); now = [] }) c.loop-place-test.true c.loop-place.invariant.0
    ∙ rw (sym c.has_word.ensures ∙ c.if-not-has_word.true) refl)

pub loop-place-preserved : goal.loop-place-preserved
loop-place-preserved c = (
  c.loop-place.invariant.0,
  c.loop-place.invariant.1 ∙ next_name c.args.names.now (fields_of c.args.row.now) c.loop-place.place (record { ref_ptr = (0, 0); now = [] }) c.loop-place-test.true c.loop-place.invariant.0
      ∙ rw (sym c.has_word.ensures ∙ c.if-not-has_word.false) refl,
)
