-- A table whose long rows are cut, as it is passed on to `csv`: by `csv`'s own machine, which knows rows and quotes.
use Rattle.std.specs.Prelude.{◌≡◌, ◌==◌, ◌++◌, ◌∷◌, ◌≤◌, ◌⊎◌, ℕ, zero, suc, List, [], Option, Some, None, if◌then◌else◌}
use Rattle.csv.specs.Machine.{step}
use Rattle.csv.specs.Reading.{default_config}
use Rattle.csv.specs.declared.parser.Action.{Action}
use Rattle.csv.specs.declared.parser.Action.TheVariants as act
use Rattle.csv.specs.declared.parser.State.{State}
use Rattle.csv.specs.declared.parser.State.TheVariants as st
use Rattle.rating.specs.declared.call.TheConstants.{MAX_SHOWN}
use Rattle.rating.specs.declared.cut_rows.CutRows.{CutRows}
use Rattle.rating.specs.declared.cursor.Moves.{Moves}
use Rattle.rating.specs.declared.cursor.Moves.TheVariants as moves
use Rattle.rating.specs.declared.cursor.Cursor.{Cursor}
use Rattle.rating.specs.declared.cursor.Cursor.TheVariants as cursor
use Rattle.rating.specs.declared.cursor.Within.{Within}
use Rattle.rating.specs.declared.cursor.Within.TheVariants as within

-- what stands for the rest of a row where it is cut: a quote where one is open
abbrev pub closing : State → List ℕ
closing st.InQuoted = 34 ∷ []
closing _ = []

-- what is passed on for a byte of a row in which there is room for so many more; none where the row was cut
abbrev pub passed_byte : State → Option ℕ → ℕ → List ℕ
passed_byte s None c = []
passed_byte s (Some zero) c = closing s
passed_byte s (Some (suc room)) c = c ∷ []

-- the same by what the machine does at the byte: the end of a row is always passed on, and quotes around a field take no room
abbrev pub passed_on : Action → State → Option ℕ → ℕ → List ℕ
passed_on act.EndRecord s room c = c ∷ []
passed_on act.Copy s room c = passed_byte s room c
passed_on act.EndField s room c = passed_byte s room c
passed_on act.Skip s None c = []
passed_on act.Skip s (Some room) c = c ∷ []

-- the room behind a byte
abbrev pub less : Option ℕ → Option ℕ
less None = None
less (Some zero) = None
less (Some (suc room)) = Some room

-- the same by what the machine does; a new row has room for `most`
abbrev pub room_after : ℕ → Action → Option ℕ → Option ℕ
room_after most act.EndRecord room = Some most
room_after most act.Copy room = less room
room_after most act.EndField room = less room
room_after most act.Skip room = room

-- what is passed on of a text from a state of the machine
unfoldable pub cut_from : ℕ → State → Option ℕ → List ℕ → List ℕ
cut_from most s room [] = []
cut_from most s room (c ∷ rest) =
    passed_on (step default_config s c).1 s room c ++ cut_from most (step default_config s c).0 (room_after most (step default_config s c).1 room) rest

-- the same behind two bytes of what may be a byte order mark, behind one, and at the start: such a mark is no part of a row
unfoldable pub cut_third : ℕ → Option ℕ → List ℕ → List ℕ
cut_third most room [] = []
cut_third most room (c ∷ rest) = if c == 0xBF then c ∷ cut_from most st.StartRecord (Some most) rest else cut_from most st.InField room (c ∷ rest)

unfoldable pub cut_second : ℕ → Option ℕ → List ℕ → List ℕ
cut_second most room [] = []
cut_second most room (c ∷ rest) = if c == 0xBB then c ∷ cut_third most (less room) rest else cut_from most st.InField room (c ∷ rest)

unfoldable pub cut_start : ℕ → List ℕ → List ℕ
cut_start most [] = []
cut_start most (c ∷ rest) = if c == 0xEF then c ∷ cut_second most (less (Some most)) rest else cut_from most st.StartRecord (Some most) (c ∷ rest)

-- the state of the machine within a row
abbrev pub cut_state_of : Within → State
cut_state_of within.StartField = st.StartField
cut_state_of within.InField = st.InField
cut_state_of within.InQuoted = st.InQuoted
cut_state_of within.AfterQuote = st.AfterQuote

-- what is passed on of the rest of a table from a cursor
abbrev pub passed_text : Cursor → List ℕ → List ℕ
passed_text cursor.Start text = cut_start MAX_SHOWN text
passed_text cursor.FirstMark text = cut_second MAX_SHOWN (less (Some MAX_SHOWN)) text
passed_text cursor.SecondMark text = cut_third MAX_SHOWN (less (less (Some MAX_SHOWN))) text
passed_text cursor.Between text = cut_from MAX_SHOWN st.StartRecord (Some MAX_SHOWN) text
passed_text (cursor.InRow at room) text = cut_from MAX_SHOWN (cut_state_of at) (Some room) text
passed_text (cursor.InRest at) text = cut_from MAX_SHOWN (cut_state_of at) None text

-- between two rows, whatever ended the first
abbrev pub IsBetween : State → Type 0
IsBetween s = (s ≡ st.StartRecord) ⊎ (s ≡ st.AfterCr)

-- what the machine does at a byte within a row
abbrev pub IsMove : Moves → State × Action → Type 0
IsMove moves.EndsRow next = IsBetween next.0 × (next.1 ≡ act.EndRecord)
IsMove (moves.Adds to) next = (next.0 ≡ cut_state_of to) × ((next.1 ≡ act.Copy) ⊎ (next.1 ≡ act.EndField))
IsMove (moves.Skips to) next = (next.0 ≡ cut_state_of to) × (next.1 ≡ act.Skip)

-- so many bytes are passed on from a cursor, if no quote is among them
abbrev pub CanPass : Cursor → ℕ → Type 0
CanPass cursor.Between count = count ≤ MAX_SHOWN
CanPass (cursor.InRow within.StartField room) count = (count ≤ room) × (count ≤ MAX_SHOWN)
CanPass (cursor.InRow within.InField room) count = (count ≤ room) × (count ≤ MAX_SHOWN)
CanPass _ count = count ≡ 0

-- the reader that is read, and where it is
abbrev pub reader_of : {R : Type 0} → CutRows R → R
reader_of rows = rows.reader

abbrev pub cut_cursor : {R : Type 0} → CutRows R → Cursor
cut_cursor rows = rows.cursor
