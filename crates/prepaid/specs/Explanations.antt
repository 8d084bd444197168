-- What is said of a fault behind its line, and behind the answer of a run.
use Rattle.std.specs.Prelude.{◌≡◌, ◌⊎◌, ◌++◌, Bool, true, false, List, ℕ}
use Rattle.table_commands.specs.Arguments.{AsksFor}
use Rattle.table_commands.specs.Wishes.{Wish, Runs, RunsInto}
use Rattle.run_command.specs.Strangers.{AreStrangersOf}
use Rattle.table_commands.specs.Explanations.{IsOfWords, IsSaidOfFault}
use Rattle.table_commands.specs.Printouts.{Printout}
use Rattle.table_commands.specs.declared.fault.Fault.{Fault}
use Rattle.run_outputs.specs.Lists.{strangers_line}

-- a text is said of a run over an input, behind its answer: which calls no subscriber makes, and then the line about the events that had no place
pub record IsSaidBehind (input events_line text : List ℕ) : Type 0 where
  pub calls : List ℕ
  pub strangers : AreStrangersOf input calls
  pub lines : text ≡ strangers_line calls ++ events_line

-- whether what is wished has an input of three sections
abbrev pub has_sections : Wish → Bool
has_sections (Runs ask) = true
has_sections (RunsInto ask folder) = true
has_sections wish = false

-- the words have this wish, and a text is said of the fault over the input
pub record IsExplained (words : List (List ℕ)) (input : List ℕ) (why : Fault) (text : List ℕ) : Type 0 where
  pub wish : Wish
  pub asked : AsksFor words wish
  pub said : IsSaidOfFault (has_sections wish) input why text

-- the words wish a run over the input, and a text is said behind its answer
pub record IsAdded (words : List (List ℕ)) (input : List ℕ) (printout : Printout) (text : List ℕ) : Type 0 where
  pub wish : Wish
  pub asked : AsksFor words wish
  pub run : has_sections wish ≡ true
  pub said : IsSaidBehind input printout.unplaced text

-- what is said of a fault: it explains it over the input, or is about the words
abbrev pub IsSaidBy : List (List ℕ) → List ℕ → Fault → List ℕ → Type 0
IsSaidBy words input why text = IsExplained words input why text ⊎ IsOfWords why
