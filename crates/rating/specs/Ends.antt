-- How rating ends.
use Rattle.std.specs.Prelude.{◌≡◌, ◌⊎◌, ◌++◌, ℕ, Bool, List, Option, Result, Ok, Err, ⊤}
use Rattle.std.specs.Io.KnownBytes.{Appends, Keeps}
use Rattle.run_texts.specs.declared.input_fault.InputFault.TheVariants as input
use Rattle.table_core.specs.Rows.{Fields}
use Rattle.table_core.specs.Fronts.{AppendsFront}
use Rattle.rating.specs.Texts.{AreRated, IsRatedText, RateInput, RatedRow, rated_text}
use Rattle.rating.specs.Lines.{rated_line}
use Rattle.rating.specs.Rated.{IsRated, Rating}
use Rattle.rating.specs.Scores.{counted}
use Rattle.tariff_core.specs.Bands.{Band}
use Rattle.rating.specs.declared.columns.Columns.{Columns}
use Rattle.rating.specs.declared.fault.RateFault.{RateFault}
use Rattle.rating.specs.declared.fault.RateFault.TheVariants as fault
use Rattle.rating.specs.declared.score.Score.{Score}

-- all of the text was printed
pub record IsRatedWhole (differing : Bool) (meaning : Result RateInput RateFault) (score : Score) (old new : Option (List ℕ)) : Type 0 where
  pub printed : List ℕ
  pub is_text : IsRatedText differing meaning printed score
  pub whole : Appends old new printed

-- a front of it was printed: of the text of the first rows
pub record IsInPart (differing : Bool) (meaning : Result RateInput RateFault) (old new : Option (List ℕ)) : Type 0 where
  pub input : RateInput
  pub is_input : meaning ≡ Ok input
  pub read : List Fields
  pub left : List Fields
  pub rows_are : input.rows ≡ read ++ left
  pub rated : List RatedRow
  pub are_rated : AreRated input read rated
  pub front : AppendsFront old new (rated_text differing input.header rated)

-- what was written at a fault: nothing, but where the output failed, or in the middle of the rows the input or memory, a front
abbrev pub StopsBy : Bool → Result RateInput RateFault → Option (List ℕ) → Option (List ℕ) → RateFault → Type 0
StopsBy differing meaning old new fault.Output = IsInPart differing meaning old new
StopsBy differing meaning old new (fault.Input input.Device) = Keeps old new ⊎ IsInPart differing meaning old new
StopsBy differing meaning old new (fault.Input input.OutOfMemory) = Keeps old new ⊎ IsInPart differing meaning old new
StopsBy differing meaning old new why = (meaning ≡ Err why) × Keeps old new

-- how rating ends where this is to be rated, and only the rows are printed that aren't right or all
abbrev pub EndsRating : Bool → Result RateInput RateFault → Option (List ℕ) → Option (List ℕ) → Result Score RateFault → Type 0
EndsRating differing meaning old new (Ok score) = IsRatedWhole differing meaning score old new
EndsRating differing meaning old new (Err why) = StopsBy differing meaning old new why

-- at any input: a fault of the input, which has status 1, comes before anything is written
abbrev pub IsRatingSilent : Option (List ℕ) → Option (List ℕ) → RateFault → Type 0
IsRatingSilent old new fault.Output = ⊤
IsRatingSilent old new (fault.Input input.Device) = ⊤
IsRatingSilent old new (fault.Input input.OutOfMemory) = ⊤
IsRatingSilent old new why = Keeps old new

-- a fault of a reader that failed, or of memory that ran out
abbrev pub RateFaultMayAlwaysCome : RateFault → Type 0
RateFaultMayAlwaysCome (fault.Input input.Device) = ⊤
RateFaultMayAlwaysCome (fault.Input input.OutOfMemory) = ⊤
RateFaultMayAlwaysCome why = ⊥

-- a fault that may come in the middle of the rows
abbrev pub MayStop : RateFault → Type 0
MayStop fault.Output = ⊤
MayStop (fault.Input input.Device) = ⊤
MayStop (fault.Input input.OutOfMemory) = ⊤
MayStop why = ⊥

-- a row was rated: its line is behind the text, and it is counted
pub record AddsRatedRow (bands : List Band) (width : ℕ) (columns : Columns) (differing : Bool) (fields : Fields) (old_text new_text : List ℕ) (old_score new_score : Score) : Type 0 where
  pub rating : Rating
  pub is_rated : IsRated bands width columns fields rating
  pub text : new_text ≡ old_text ++ rated_line differing fields rating
  pub score : new_score ≡ counted old_score rating

-- a front of a text was written, and this is the rest
pub record SendsFront (old new : Option (List ℕ)) (text rest : List ℕ) : Type 0 where
  pub sent : List ℕ
  pub wrote : Appends old new sent
  pub is : text ≡ sent ++ rest

-- the output failed within the text
pub record IsRatingCutOff (old new : Option (List ℕ)) (text : List ℕ) (why : RateFault) : Type 0 where
  pub why_is : why ≡ fault.Output
  pub front : AppendsFront old new text
