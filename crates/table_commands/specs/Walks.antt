-- A walk through a table by the machine of `csv`.
use Rattle.std.specs.Prelude.{◌≡◌, ◌≤◌, ◌<◌, ◌++◌, ◌∷◌, ℕ, Bool, true, false, List, [], length, take, drop, ⊤, ◌+◌, if◌then◌else◌}
use Rattle.rating.specs.Cuts.{IsBetween}
use Rattle.csv.specs.Machine.{ends_at_end, field_after, fields_after, is_end, step}
use Rattle.csv.specs.Reading.{default_config, records, strip_bom}
use Rattle.csv.specs.declared.parser.Action.{Action}
use Rattle.csv.specs.declared.parser.Action.TheVariants as act
use Rattle.csv.specs.declared.parser.State.{State}
use Rattle.csv.specs.declared.parser.State.TheVariants as st
use Rattle.table_core.specs.Rows.{Fields}
use Rattle.table_commands.specs.RowStarts.{BeginsLine}
use Rattle.table_commands.specs.declared.explanations.walk.Place.{Place}
use Rattle.table_commands.specs.declared.explanations.walk.Place.TheVariants as place
use Rattle.table_commands.specs.declared.explanations.walk.Walk.{Walk}

-- the machine is in the state of a place
abbrev pub IsPlace : Place → State → Type 0
IsPlace place.Between s = IsBetween s
IsPlace place.StartField s = s ≡ st.StartField
IsPlace place.InField s = s ≡ st.InField
IsPlace place.InQuoted s = s ≡ st.InQuoted
IsPlace place.AfterQuote s = s ≡ st.AfterQuote

-- whether a row ends between two places that follow one another
abbrev pub ends_row : Place → Place → Bool
ends_row place.Between to = false
ends_row from place.Between = true
ends_row from to = false

-- what the machine does at a byte from a place to the next: the end of a line between two rows is passed over, and else a row ends or goes on
abbrev pub IsStep : Place → Place → State × Action → Type 0
IsStep place.Between place.Between next = IsBetween next.0 × (next.1 ≡ act.Skip)
IsStep from to next = IsPlace to next.0 × (is_end next.1 ≡ ends_row from to)

-- the rows that come of a text, from a state of the machine with the fields and the bytes of the field at hand
unfoldable pub rows_after : State → Fields → List ℕ → List ℕ → List Fields
rows_after s fields field [] = if ends_at_end s then (fields ++ field ∷ []) ∷ [] else []
rows_after s fields field (c ∷ rest) =
    if is_end (step default_config s c).1 then fields_after (step default_config s c).1 fields field ∷ rows_after (step default_config s c).0 [] [] rest
    else rows_after (step default_config s c).0 (fields_after (step default_config s c).1 fields field) (field_after (step default_config s c).1 c field) rest

-- between two rows nothing is at hand
abbrev pub HasAtHand : Place → Fields → List ℕ → Type 0
HasAtHand place.Between fields field = (fields ≡ []) × (field ≡ [])
HasAtHand at fields field = ⊤

-- a walk has gone through the front of a table: the rows of the front with whatever comes behind it are those that have ended, and what comes of the rest
pub record HasWalked (walk : Walk) (front : List ℕ) : Type 0 where
  pub state : State
  pub fields : Fields
  pub field : List ℕ
  pub rows : List Fields
  pub at_place : IsPlace walk.place state
  pub at_hand : HasAtHand walk.place fields field
  pub count : length rows ≡ walk.above
  pub goes_on : (rest : List ℕ) → records default_config (front ++ rest) ≡ rows ++ rows_after state fields field rest

-- what the machine does at a byte from each state of a place
abbrev pub StepsMachine : Place → Place → ℕ → Type 0
StepsMachine from to byte = (s : State) → IsPlace from s → IsStep from to (step default_config s byte)

-- the walk behind a byte, at the place there
abbrev pub passed_walk : Walk → Place → Walk
passed_walk walk to = record { place = to; above = if ends_row walk.place to then walk.above + 1 else walk.above }

-- whether a row begins between two places that follow one another
abbrev pub begins_row : Place → Place → Bool
begins_row place.Between place.Between = false
begins_row place.Between to = true
begins_row from to = false

-- so many bytes are the byte order mark at the start of a text, and so at that of each front of it that has them
abbrev pub IsMark : ℕ → List ℕ → Type 0
IsMark mark text = (count : ℕ) → strip_bom (take (mark + count) text) ≡ take count (drop mark text)

-- where a row begins in a table without such a mark
pub record BeginsRowBehind (text : List ℕ) (row at : ℕ) : Type 0 where
  pub above : length (records default_config (take at text)) + 1 ≡ row
  pub whole : records default_config text ≡ records default_config (take at text) ++ records default_config (drop at text)
  pub begins : BeginsLine (drop at text)

-- such a table has fewer rows than this number
abbrev pub HasFewerBehind : List ℕ → ℕ → Type 0
HasFewerBehind text row = 1 ≤ row → length (records default_config text) < row

-- how many rows have begun where a walk is at a place, and so many have ended
abbrev pub met_at : Place → ℕ → ℕ
met_at place.Between above = above
met_at at above = above + 1

-- how many rows a walk has met, the one in which it is with them
abbrev pub met : Walk → ℕ
met walk = met_at walk.place walk.above
