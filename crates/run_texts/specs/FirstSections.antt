-- The first section of a text: what is before the first line that is a divider.
use Rattle.std.specs.Prelude.{◌≡◌, ◌+◌, ◌<◌, ℕ, List, [], ◌∷◌, ◌++◌, length, drop, Option, Some, None, Result, Ok, Err, ⊤, if◌then◌else◌, nat_lt, option_map}
use Rattle.std.specs.Io.BufRead.{drop_through, take_through}
use Rattle.std.specs.Io.KnownBytes.{Consumes, IsAtEnd, Keeps}
use Rattle.run_texts.specs.InputFaults.{RefusesInput}
use Rattle.run_texts.specs.Sections.{is_divider, lines_in_text}
use Rattle.run_texts.specs.declared.input_fault.InputFault.{InputFault}
use Rattle.run_texts.specs.declared.input_fault.InputFault.TheVariants as fault
use Rattle.run_texts.specs.declared.section.TheConstants.{MAX_SECTION}

-- what is before the first divider, and the divider
pub record Division : Type 0 where
  pub section : List ℕ
  pub divider : List ℕ

-- a text is before the lines that are divided
abbrev pub with_front : List ℕ → Division → Division
with_front front division = record { section = front ++ division.section; divider = division.divider }

-- some lines, divided at the first divider among them
unfoldable pub division_of : List (List ℕ) → Option Division
division_of [] = None
division_of (line ∷ lines) = if is_divider line then Some (record { section = []; divider = line }) else option_map (with_front line) (division_of lines)

-- a section, and what is behind its divider
pub record FirstSection : Type 0 where
  pub section : List ℕ
  pub rest : List ℕ

-- what is behind the divider
abbrev pub section_at : List ℕ → Division → FirstSection
section_at text division = record { section = division.section; rest = drop (length division.section + length division.divider) text }

-- the section and its divider have `MAX_SECTION` bytes at most, or where there is no divider the whole text
abbrev pub first_section_by : List ℕ → Option Division → Result FirstSection InputFault
first_section_by text None = Err (if nat_lt MAX_SECTION (length text) then fault.TooLong else fault.Parts)
first_section_by text (Some division) = if nat_lt MAX_SECTION (length division.section + length division.divider) then Err fault.TooLong else Ok (section_at text division)

-- the first section of a text
abbrev pub first_section : List ℕ → Result FirstSection InputFault
first_section text = first_section_by text (division_of (lines_in_text text))

-- the section was read of a text, and what is behind its divider is left
abbrev pub Divides : List ℕ → Option (List ℕ) → Result (List ℕ) InputFault → Type 0
Divides text left (Ok section) = (rest : List ℕ) × (left ≡ Some rest) × (first_section text ≡ Ok (record { section = section; rest = rest }))
Divides text left (Err why) = RefusesInput why (first_section text)

-- the first line of a text was read, and what is behind it is left; or it has more bytes than these
abbrev pub ReadsLine : ℕ → List ℕ → Option (List ℕ) → Option (List ℕ) → Type 0
ReadsLine most text left None = most < length (take_through 10 text)
ReadsLine most text left (Some line) = (line ≡ take_through 10 text) × (left ≡ Some (drop_through 10 text))

-- a reader gave its next byte, or none at its end
abbrev pub TakesByte : Option (List ℕ) → Option (List ℕ) → Option ℕ → Type 0
TakesByte old new None = IsAtEnd old × Keeps old new
TakesByte old new (Some byte) = Consumes old new (byte ∷ [])

-- a fault of a reader that failed, or of memory that ran out
abbrev pub InputFaultMayAlwaysCome : InputFault → Type 0
InputFaultMayAlwaysCome fault.Device = ⊤
InputFaultMayAlwaysCome fault.OutOfMemory = ⊤
InputFaultMayAlwaysCome why = ⊥
