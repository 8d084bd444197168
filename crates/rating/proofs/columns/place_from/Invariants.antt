use Rattle.std.proofs.Common.{◌≡◌, ◌≤◌, drop}
use Rattle.csv.specs.Records.{fields_of}
use Rattle.rating.specs.Columns.{place_from}
use Rattle.rating.proofs.columns.place_from.Given as goal

-- the name is at none of the places so far
abbrev pub invariant-loop-place : goal.invariant-loop-place
invariant-loop-place l = (l.start ≤ l.place) × (place_from (drop l.start (fields_of l.header)) l.name l.start ≡ place_from (drop l.place (fields_of l.header)) l.name l.place)
