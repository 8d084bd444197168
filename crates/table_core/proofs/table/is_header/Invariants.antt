use Rattle.std.proofs.Common.{◌≡◌, drop, length}
use Rattle.csv.specs.Records.{fields_of}
use Rattle.table_core.specs.Tables.{is_header, names_of}
use Rattle.table_core.proofs.table.is_header.Given as goal

-- the fields so far are the names
abbrev pub invariant-loop-place : goal.invariant-loop-place
invariant-loop-place l =
    (length (fields_of l.row) ≡ length l.names)
    × (is_header (names_of l.names) (fields_of l.row) ≡ is_header (names_of (drop l.place l.names)) (drop l.place (fields_of l.row)))
