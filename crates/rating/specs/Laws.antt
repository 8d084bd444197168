-- A table of records may be cut between two of its rows, and each piece be rated by itself under the header.
use Rattle.std.specs.Prelude.{◌+◌, Bool, List, ◌++◌, Ok, ℕ}
use Rattle.table_core.specs.Rows.{Fields}
use Rattle.rating.specs.Lines.{header_line}
use Rattle.rating.specs.Texts.{IsRatedText, RateInput}
use Rattle.rating.specs.declared.score.Score.{Score}

-- what is counted of two pieces
abbrev pub together : Score → Score → Score
together one other = record {
  rows = one.rows + other.rows;
  differing = one.differing + other.differing;
  faults = one.faults + other.faults;
  paid = one.paid + other.paid;
  price = one.price + other.price;
  under = one.under + other.under;
  over = one.over + other.over;
}

-- rows under the tariff and the header of an input
abbrev pub with_rows : RateInput → List Fields → RateInput
with_rows input rows = record input { rows = rows }

-- behind the header the lines of some rows and of those after them are the lines of all, and what is counted adds up
abbrev pub PiecesAreRated : Type 0
PiecesAreRated =
    (differing : Bool) (input : RateInput) (front back : List Fields) (first second : List ℕ) (one other : Score)
    → IsRatedText differing (Ok (with_rows input front)) (header_line input.header ++ first) one
    → IsRatedText differing (Ok (with_rows input back)) (header_line input.header ++ second) other
    → IsRatedText differing (Ok (with_rows input (front ++ back))) (header_line input.header ++ (first ++ second)) (together one other)
