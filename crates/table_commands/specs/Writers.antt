-- What goes to the two writers of the program.
use Rattle.std.specs.Prelude.{◌≡◌, ◌++◌, ℕ, Bool, false, List, [], Option, Some, None, codes}
use Rattle.std.specs.Io.KnownBytes.{Keeps}
use Rattle.table_core.specs.Fronts.{AppendsFront}
use Rattle.table_commands.specs.Faults.{line_of_fault, status_of}
use Rattle.table_commands.specs.Outputs.{IsSaidOfOutput}
use Rattle.table_commands.specs.declared.fault.Fault.{Fault}

-- what the two writers hold, where that is known
pub record Written : Type 0 where
  pub output : Option (List ℕ)
  pub faults : Option (List ℕ)

-- the line of a fault and behind it what is said of it went to the error writer, or where that failed a front of these. The output stays as it was
pub record IsReportedWith (why : Fault) (text : List ℕ) (status : ℕ) (old new : Written) : Type 0 where
  pub status_is : status ≡ status_of why
  pub line : AppendsFront old.faults new.faults (line_of_fault why ++ (codes "\n" ++ text))
  pub output : Keeps old.output new.output

-- the line of a fault and behind it what is said of it, nothing where that isn't asked for, went to the error writer, or where that failed a front of these
pub record IsFaultExplained (explaining : Bool) (why : Fault) (status : ℕ) (old new : Option (List ℕ)) : Type 0 where
  pub status_is : status ≡ status_of why
  pub more : List ℕ
  pub only : explaining ≡ false → more ≡ []
  pub line : AppendsFront old new (line_of_fault why ++ (codes "\n" ++ more))

-- what is said of a fault to the error writer: its line or a front of it, at its status; of an output that failed what is said of that, at status 2
abbrev pub IsSaid : Bool → Option Fault → ℕ → Option (List ℕ) → Option (List ℕ) → Type 0
IsSaid explaining None status old new = (status ≡ 2) × IsSaidOfOutput explaining old new
IsSaid explaining (Some why) status old new = (status ≡ status_of why) × AppendsFront old new (line_of_fault why ++ codes "\n")
