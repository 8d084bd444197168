use Rattle.std.proofs.Common.{◌≡◌, [], map}
use Rattle.csv.specs.Records.{fields_of, partial_of}
use Rattle.run_texts.proofs.line.plain_row.Given as goal

-- the parts so far are the fields
abbrev pub invariant-loop-field : goal.invariant-loop-field
invariant-loop-field l = (partial_of l.row ≡ []) × (fields_of l.row ≡ map (λ part. part.now) l.yielded)
