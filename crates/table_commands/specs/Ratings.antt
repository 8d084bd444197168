-- What `rate` prints of records as they come, and how that ends.
use Rattle.std.specs.Prelude.{◌≡◌, ◌⊎◌, ◌++◌, ℕ, Bool, false, List, [], Option, Some, Err, codes}
use Rattle.std.specs.Io.KnownBytes.{Keeps}
use Rattle.rating.specs.Asks.{RateWish}
use Rattle.rating.specs.Ends.{IsInPart, IsRatedWhole as IsRatedWhole}
use Rattle.table_core.specs.Fronts.{AppendsFront}
use Rattle.rating.specs.Texts.{rate_input_of}
use Rattle.rating.specs.declared.fault.RateFault.{RateFault}
use Rattle.rating.specs.declared.fault.RateFault.TheVariants as rate
use Rattle.rating.specs.declared.score.Score.{Score}
use Rattle.run_values.specs.declared.run_fault.RunFault.TheVariants as run
use Rattle.table_commands.specs.Faults.{line_of_fault, no_header, of_rate}
use Rattle.table_commands.specs.Outputs.{IsSaidOfOutput}
use Rattle.table_commands.specs.Summaries.{status_of_rating, summary_of}
use Rattle.table_commands.specs.Writers.{IsFaultExplained, IsReportedWith, IsSaid, Written}
use Rattle.table_commands.specs.declared.fault.Fault.{Fault}
use Rattle.table_commands.specs.declared.fault.Fault.TheVariants as fault
use Rattle.table_commands.specs.declared.fault.TableName.TheVariants as table

-- the line of a failed input or of memory that ran out, or what is said of an output that failed
abbrev pub IsOfFailure : Bool → Option (List ℕ) → Option (List ℕ) → Type 0
IsOfFailure explaining old new = IsSaidOfOutput explaining old new ⊎ AppendsFront old new (line_of_fault fault.Device ++ codes "\n") ⊎ AppendsFront old new (line_of_fault (fault.Run run.OutOfMemory) ++ codes "\n")

-- what is said of a rating that stopped
abbrev pub IsSaidOfRating : Bool → RateFault → ℕ → Option (List ℕ) → Option (List ℕ) → Type 0
IsSaidOfRating explaining (rate.Header wrong) status old new = IsFaultExplained explaining (no_header table.Records) status old new
IsSaidOfRating explaining why status old new = IsSaid explaining (of_rate why) status old new

-- what stands behind the line of a rating that stopped: something at a wrong header alone, and only where that is asked for
abbrev pub ExplainsHeaderAlone : Bool → RateFault → List ℕ → Type 0
ExplainsHeaderAlone explaining (rate.Header wrong) more = explaining ≡ false → more ≡ []
ExplainsHeaderAlone explaining why more = more ≡ []

-- all rows were rated and printed: the status says whether all are right, and the summary went to the error writer where it was asked for, or a front of it
pub record IsRatedInput (wish : RateWish) (text : List ℕ) (status : ℕ) (old new : Written) : Type 0 where
  pub score : Score
  pub printed : IsRatedWhole wish.differing (rate_input_of wish.names text) score old.output new.output
  pub status_is : status ≡ status_of_rating score
  pub line : AppendsFront old.faults new.faults (summary_of wish score)

-- the tariff or the header has a fault, which is reported, a header's with what is said of it, and the output stays as it was
pub record IsRatingRefused (explaining : Bool) (wish : RateWish) (text : List ℕ) (status : ℕ) (old new : Written) : Type 0 where
  pub why : RateFault
  pub refused : rate_input_of wish.names text ≡ Err why
  pub fault : Fault
  pub fault_is : of_rate why ≡ Some fault
  pub more : List ℕ
  pub only : ExplainsHeaderAlone explaining why more
  pub reported : IsReportedWith fault more status old new

-- the input, memory or the output failed, at status 2: a front of the text was printed, or nothing, and of a line about it a front, or nothing
pub record IsBroken (explaining : Bool) (wish : RateWish) (text : List ℕ) (status : ℕ) (old new : Written) : Type 0 where
  pub status_is : status ≡ 2
  pub front : Keeps old.output new.output ⊎ IsInPart wish.differing (rate_input_of wish.names text) old.output new.output
  pub line : IsOfFailure explaining old.faults new.faults

-- how records that are rated as they come were printed: whole, refused, or broken off
abbrev pub IsRatedByWish : Bool → RateWish → List ℕ → ℕ → Written → Written → Type 0
IsRatedByWish explaining wish text status old new =
    IsRatedInput wish text status old new ⊎ IsRatingRefused explaining wish text status old new ⊎ IsBroken explaining wish text status old new
