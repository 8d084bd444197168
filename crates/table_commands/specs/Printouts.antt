-- What the program prints, and the status that goes with it.
use Rattle.std.specs.Prelude.{ℕ, Bool, true, List, [], if◌then◌else◌}

-- a text, whether all is right that was asked about, the line about what a run refused, and that about the events that had no place in it, which is said where that is asked for
pub record Printout : Type 0 where
  pub text : List ℕ
  pub passes : Bool
  pub refused : List ℕ
  pub unplaced : List ℕ

-- a text that finds nothing wrong, and of no run that refused anything
abbrev pub plain : List ℕ → Printout
plain text = record { text = text; passes = true; refused = []; unplaced = [] }

-- the status that goes with a text
abbrev pub status_of_printout : Printout → ℕ
status_of_printout printout = if printout.passes then 0 else 3
