-- Where a row of a table begins.
use Rattle.std.specs.Prelude.{◌≡◌, ◌≤◌, ◌<◌, ◌+◌, ◌==◌, ◌||◌, ◌++◌, ◌∷◌, ℕ, Bool, false, List, [], length, take, drop}
use Rattle.csv.specs.Reading.{default_config, records}
use Rattle.table_core.specs.Rows.{rows_of}

-- whether a byte ends a line: LF or CR
abbrev pub is_line_end : ℕ → Bool
is_line_end byte = (byte == 13) || (byte == 10)

-- a text has a first byte, which ends no line
abbrev pub BeginsLine : List ℕ → Type 0
BeginsLine [] = ⊥
BeginsLine (byte ∷ text) = is_line_end byte ≡ false

-- the row of this number begins at a byte of a table: in front of it are the rows above, and from it on the row and those below
pub record BeginsRow (text : List ℕ) (row at : ℕ) : Type 0 where
  pub above : length (rows_of (take at text)) + 1 ≡ row
  pub whole : rows_of text ≡ rows_of (take at text) ++ records default_config (drop at text)
  pub begins : BeginsLine (drop at text)

-- a table has fewer rows than this number
abbrev pub HasFewer : List ℕ → ℕ → Type 0
HasFewer text row = 1 ≤ row → length (rows_of text) < row
