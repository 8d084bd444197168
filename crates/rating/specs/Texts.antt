-- The text that `rate` prints of an input.
use Rattle.std.specs.Prelude.{◌≡◌, ℕ, Bool, List, [], ◌∷◌, ◌++◌, All, length, map, Result, Ok, Err, if◌then◌else◌, nat_lt}
use Rattle.std.specs.List.{flat_map}
use Rattle.run_texts.specs.FirstSections.{first_section}
use Rattle.run_texts.specs.Inputs.{tariff_in}
use Rattle.table_core.specs.Judging.{and_then}
use Rattle.table_core.specs.Rows.{Fields, rows_of}
use Rattle.tariff_core.specs.Bands.{Band}
use Rattle.rating.specs.Asks.{NamesWish}
use Rattle.rating.specs.Calls.{row_size}
use Rattle.rating.specs.Columns.{found_columns}
use Rattle.rating.specs.Faults.{as_rate_fault}
use Rattle.rating.specs.Lines.{header_line, rated_line}
use Rattle.rating.specs.Rated.{IsRated, Rating}
use Rattle.rating.specs.Scores.{score_of_rows}
use Rattle.rating.specs.declared.call.TheConstants.{MAX_SHOWN}
use Rattle.rating.specs.declared.columns.Columns.{Columns}
use Rattle.rating.specs.declared.fault.HeaderFault.{HeaderFault}
use Rattle.rating.specs.declared.fault.HeaderFault.TheVariants as header_fault
use Rattle.rating.specs.declared.fault.RateFault.{RateFault}
use Rattle.rating.specs.declared.fault.RateFault.TheVariants as fault
use Rattle.rating.specs.declared.score.Score.{Score}

-- what is to be rated: a tariff, a header and where its columns are, and the rows below it
pub record RateInput : Type 0 where
  pub bands : List Band
  pub header : Fields
  pub columns : Columns
  pub rows : List Fields

-- the rows below a header
abbrev pub rated_below : List Band → Fields → List Fields → Result Columns HeaderFault → Result RateInput RateFault
rated_below bands header rows (Err why) = Err (fault.Header why)
rated_below bands header rows (Ok columns) = Ok (record { bands = bands; header = header; columns = columns; rows = rows })

-- the rows of a table, the first of which is its header, unless it has too many bytes
abbrev pub headed : NamesWish → List Band → List Fields → Result RateInput RateFault
headed names bands [] = Err (fault.Header header_fault.Absent)
headed names bands (header ∷ rows) = if nat_lt MAX_SHOWN (row_size header) then Err (fault.Header header_fault.TooLong) else rated_below bands header rows (found_columns header names)

-- an input: its first section, which is its tariff, and its header, judged in this order
abbrev pub rate_input_of : NamesWish → List ℕ → Result RateInput RateFault
rate_input_of names text = and_then (as_rate_fault (first_section text)) (λ first. and_then (as_rate_fault (tariff_in first.section)) (λ bands. headed names bands (rows_of first.rest)))

-- a row, and what it comes to
pub record RatedRow : Type 0 where
  pub fields : Fields
  pub rating : Rating

-- a row comes to this by its own fields, the tariff and the header alone
abbrev pub IsRatedRow : RateInput → RatedRow → Type 0
IsRatedRow input row = IsRated input.bands (length input.header) input.columns row.fields row.rating

-- some rows have been rated
pub record AreRated (input : RateInput) (rows : List Fields) (rated : List RatedRow) : Type 0 where
  pub rows_are : rows ≡ map (λ row. row.fields) rated
  pub each : All (IsRatedRow input) rated

-- the text of rows that have been rated: the header, and a line of each row that is printed
abbrev pub rated_text : Bool → Fields → List RatedRow → List ℕ
rated_text differing header rated = header_line header ++ flat_map (λ row. rated_line differing row.fields row.rating) rated

-- what is counted of them
abbrev pub counts_of : List RatedRow → Score
counts_of rated = score_of_rows (map (λ row. row.rating) rated)

-- the text that is printed where this is to be rated, and what is counted
pub record IsRatedText (differing : Bool) (meaning : Result RateInput RateFault) (printed : List ℕ) (score : Score) : Type 0 where
  pub input : RateInput
  pub is_input : meaning ≡ Ok input
  pub rated : List RatedRow
  pub are_rated : AreRated input input.rows rated
  pub printed_is : printed ≡ rated_text differing input.header rated
  pub score_is : score ≡ counts_of rated
