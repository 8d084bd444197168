-- What is said of a fault in a table of an input.
use Rattle.std.specs.Prelude.{◌≡◌, ◌⊎◌, ◌++◌, ℕ, List, [], take}
use Rattle.table_commands.specs.RowLines.{shown_row_line}
use Rattle.table_commands.specs.RowStarts.{BeginsRow, HasFewer}
use Rattle.table_commands.specs.Sections.{IsSection}
use Rattle.table_commands.specs.declared.explanations.sections.Section.{Section}
use Rattle.table_commands.specs.declared.explanations.sections.Section.TheVariants as section
use Rattle.table_commands.specs.declared.explanations.slip.Slip.{Slip}
use Rattle.table_commands.specs.declared.explanations.slip.Slip.TheVariants as slip

-- the section of the input that the table is
abbrev pub section_of : Slip → Section
section_of (slip.Reports fault) = section.Whole
section_of (slip.Ops fault) = section.Whole
section_of (slip.Book fault) = section.Whole
section_of (slip.Tariff fault) = section.Whole
section_of (slip.RunTariff fault) = section.First
section_of (slip.Setup fault) = section.Second
section_of (slip.Script fault) = section.Third

-- the number of the row
abbrev pub slip_row : Slip → ℕ
slip_row (slip.Reports fault) = fault.row
slip_row (slip.Ops fault) = fault.row
slip_row (slip.Book fault) = fault.row
slip_row (slip.Tariff fault) = fault.row
slip_row (slip.RunTariff fault) = fault.row
slip_row (slip.Setup fault) = fault.row
slip_row (slip.Script fault) = fault.row

-- a row of a table that has this text in front of it begins in this line
pub record BeginsIn (before table : List ℕ) (row : ℕ) (line : List ℕ) : Type 0 where
  pub at : ℕ
  pub begins : BeginsRow table row at
  pub line_is : line ≡ shown_row_line before table at

-- the line of a row, or none where the table has fewer rows
abbrev pub IsLineOf : List ℕ → List ℕ → ℕ → List ℕ → Type 0
IsLineOf before table row line = BeginsIn before table row line ⊎ (HasFewer table row × (line ≡ []))

-- an explanation of a row of a table: its line, and what is wrong there
pub record ExplainsRow (before table : List ℕ) (row : ℕ) (text : List ℕ) : Type 0 where
  pub line : List ℕ
  pub is_line : IsLineOf before table row line
  pub more : List ℕ
  pub text_is : text ≡ line ++ more

-- an explanation of a fault in a table of an input
pub record Explains (input : List ℕ) (slip : Slip) (text : List ℕ) : Type 0 where
  -- the table, and where it begins
  pub start : ℕ
  pub table : List ℕ
  pub is_section : IsSection (section_of slip) input start table
  pub explains : ExplainsRow (take start input) table (slip_row slip) text
