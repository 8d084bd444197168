use Rattle.csv.specs.Records.{fields_of}
use Rattle.rating.proofs.LineLemmas.{field_next, fields_end}
use Rattle.rating.proofs.line.push_fields.Goals as goal

pub loop-place-preserved : goal.loop-place-preserved
loop-place-preserved c =
    rw (c.in_ok-extend_from_slice.ensures.items, c.in_ok-push_field.ensures)
    (field_next (fields_of c.args.row.now) c.loop-place.place c.field.result.now _ _ (rw c.len-place-end.ensures at c.loop-place-test.true) c.field.ensures c.loop-place.invariant)

pub returns : goal.returns
returns c = fields_end (fields_of c.args.row.now) c.loop-place.place _ _ (rw c.len-place-end.ensures at c.loop-place-test.false) c.loop-place.invariant
