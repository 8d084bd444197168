-- What is wrong with the lines of a log, before they are heard again.
use Rattle.std.specs.Prelude.{◌≡◌, ◌+◌, ℕ, Option, Some, None, List, [], ◌∷◌, Result, Ok, Err, length, ⊤}
use Rattle.live_answers.specs.Live.{Heard}
use Rattle.live_answers.specs.Standing.{LineView}
use Rattle.live_answers.specs.declared.checking.ReplayFault.{ReplayFault}
use Rattle.live_answers.specs.declared.checking.ReplayFault.TheVariants as fault
use Rattle.run_texts.specs.declared.kind.LineKind.{LineKind}
use Rattle.run_texts.specs.declared.kind.LineKind.TheVariants as kind
use Rattle.table_core.specs.declared.fault.RowKind.TheVariants as row

-- the moment of a line of a log, or what is wrong with it: it has to be accepted, and an empty one has no row
abbrev pub logged_moment : LineView → Result ℕ LineKind
logged_moment None = Err (kind.Row row.Csv)
logged_moment (Some (Ok message)) = Ok message.at
logged_moment (Some (Err why)) = Err why

-- what is wrong with the line of a number, or with those behind it
abbrev pub wrong_or : ℕ → Result ℕ LineKind → Option (ℕ × LineKind) → Option (ℕ × LineKind)
wrong_or number (Ok at) later = later
wrong_or number (Err why) later = Some (number, why)

-- the first line that isn't accepted, behind the line of a number: its own number, and what is wrong with it
abbrev pub first_wrong : ℕ → List Heard → Option (ℕ × LineKind)
first_wrong number [] = None
first_wrong number (one ∷ heard) = wrong_or (number + 1) (logged_moment one.said) (first_wrong (number + 1) heard)

-- the lines of a log are counted where all are accepted; else the first that isn't is given, where the header in front of them is line 1
abbrev pub IsChecked : List Heard → Result ℕ ReplayFault → Type 0
IsChecked heard (Ok count) = (first_wrong 1 heard ≡ None) × (count ≡ length heard)
IsChecked heard (Err (fault.Line number why)) = first_wrong 1 heard ≡ Some (number, why)
IsChecked heard (Err fault.Input) = ⊤
IsChecked heard (Err fault.OutOfMemory) = ⊤
