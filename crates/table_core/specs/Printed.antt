-- Tables that are printed without quotes, and what is read of them: the same rows and numbers.
use Rattle.std.specs.Prelude.{◌≡◌, ◌<◌, ◌≤◌, ◌^◌, ℕ, false, List, ◌++◌, codes, length, Some}
use Rattle.std.specs.Fmt.{decimal}
use Rattle.std.specs.List.{All, flat_map, join_with_byte, list_any}
use Rattle.csv.specs.Reading.{strip_bom}
use Rattle.csv.specs.Writing.{comma, default_writer, needs_byte}
use Rattle.table_core.specs.Decimals.{decimal_of}
use Rattle.table_core.specs.Rows.{Fields, rows_of}

-- a field that needs no quotes: none of its bytes is a comma, a quote, CR or LF
abbrev pub IsPlain : List ℕ → Type 0
IsPlain field = list_any (needs_byte default_writer) field ≡ false

-- a row of two fields or more, none of which needs quotes; a single empty field would be an empty line, which is no row
pub record IsPlainRow (row : Fields) : Type 0 where
  pub several : 1 < length row
  pub plain : All IsPlain row

-- the line of a row: its fields with commas between them, and LF
abbrev pub line_of : Fields → List ℕ
line_of row = join_with_byte comma row ++ codes "\n"

-- the text of some rows
abbrev pub lines_of : List Fields → List ℕ
lines_of rows = flat_map line_of rows

-- the decimal of a number is read as that number
abbrev pub DecimalsAreRead : Type 0
DecimalsAreRead = (most number : ℕ) → most < 2 ^ 64 → number ≤ most → decimal_of most (decimal number) ≡ Some number

-- a decimal needs no quotes
abbrev pub DecimalsArePlain : Type 0
DecimalsArePlain = (number : ℕ) → number < 2 ^ 64 → IsPlain (decimal number)

-- the text of plain rows, where no byte order mark is at its start, is read as these rows
abbrev pub TablesAreRead : Type 0
TablesAreRead = (rows : List Fields) → All IsPlainRow rows → strip_bom (lines_of rows) ≡ lines_of rows → rows_of (lines_of rows) ≡ rows
