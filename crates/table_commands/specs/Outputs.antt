-- What is said of an output that failed.
use Rattle.std.specs.Prelude.{◌≡◌, ◌++◌, ℕ, Bool, true, false, List, Option, codes}
use Rattle.std.specs.Io.KnownBytes.{Keeps}
use Rattle.table_core.specs.Fronts.{AppendsFront}

-- a line that says why it failed, in the words of the system, which no clause can know
pub record IsOutputLine (line : List ℕ) : Type 0 where
  pub why : List ℕ
  pub says : line ≡ codes "the output: " ++ (why ++ codes "\n")

-- what is said of an output that failed: nothing where that isn't asked for, else a line that says why, or where the error writer failed a front of it
abbrev pub IsSaidOfOutput : Bool → Option (List ℕ) → Option (List ℕ) → Type 0
IsSaidOfOutput false old new = Keeps old new
IsSaidOfOutput true old new = (line : List ℕ) × (IsOutputLine line × AppendsFront old new line)
