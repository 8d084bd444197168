use Rattle.std.proofs.Common.{◌≡◌, ◌++◌, drop}
use Rattle.csv.specs.Records.{fields_of}
use Rattle.rating.specs.Calls.{with_commas}
use Rattle.rating.proofs.line.push_fields.Given as goal

-- what is written and what is left to write are the fields
abbrev pub invariant-loop-place : goal.invariant-loop-place
invariant-loop-place l = l.text.items ++ with_commas (drop l.place (fields_of l.row)) ≡ l.fn.text.items ++ with_commas (fields_of l.row)
