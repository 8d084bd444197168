use Rattle.std.proofs.Common.{◌≡◌, ◌++◌, ◌∷◌, drop}
use Rattle.csv.specs.Writing.{default_writer, escaped}
use Rattle.rating.proofs.line.push_quoted.Given as goal

-- what is written and what is left to write are the field behind its quote
abbrev pub invariant-loop-byte : goal.invariant-loop-byte
invariant-loop-byte l = l.text.items ++ escaped default_writer (drop l.byte-index l.field) ≡ l.fn.text.items ++ (34 ∷ escaped default_writer l.field)
