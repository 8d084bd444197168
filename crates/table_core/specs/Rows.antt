-- The rows of a text, and those that a reader of rows has left.
use Rattle.std.specs.Prelude.{◌≡◌, ◌<◌, ℕ, Bool, true, false, List, [], ◌∷◌, drop, length, Option, Some}
use Rattle.csv.specs.Machine.{ends_at_end}
use Rattle.csv.specs.Reading.{Ready, default_config, records, records_from, source_of, strip_bom}
use Rattle.csv.specs.Records.{fields_of}
use Rattle.csv.specs.declared.reader.Trim.TheVariants as trim
use Rattle.table_core.specs.declared.table.Rows.{Rows}

-- a row: the bytes of each of its fields
abbrev pub Fields : Type 0
Fields = List (List ℕ)

-- the rows of a text, after a byte order mark at its start
unfoldable pub rows_of : List ℕ → List Fields
rows_of text = records default_config (strip_bom text)

-- the rows of a table below its header
abbrev pub rows_below_header : List Fields → List Fields
rows_below_header rows = drop 1 rows

-- the rows that are left to a reader of rows, where the bytes below are known
pub record HasRowsLeft {R : Type 0} (remaining : R → Option (List ℕ)) (rows : Rows R) (left : List Fields) : Type 0 where
  pub untrimmed : rows.reader.trim ≡ trim.None
  pub ready : Ready rows.reader
  pub plain : rows.reader.config ≡ default_config
  pub text : List ℕ
  pub source : source_of remaining rows.reader ≡ Some text
  pub between : ends_at_end rows.reader.state ≡ false
  pub fuel : ℕ
  pub enough : length text < fuel
  pub left_are : left ≡ records_from default_config fuel rows.reader.state text

-- a row was found: it was the first of those left. None was found: none was left
abbrev pub TakesNext : {R : Type 0} → (R → Option (List ℕ)) → Rows R → List Fields → Bool → Type 0
TakesNext remaining after left true = (rest : List Fields) × (left ≡ fields_of after.row ∷ rest) × HasRowsLeft remaining after rest
TakesNext remaining after left false = left ≡ []

-- the same, whatever rows were left before
abbrev pub TakesTableRow : {R : Type 0} → (R → Option (List ℕ)) → Rows R → Rows R → Bool → Type 0
TakesTableRow remaining before after found = (left : List Fields) → HasRowsLeft remaining before left → TakesNext remaining after left found
