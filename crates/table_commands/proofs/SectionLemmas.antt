-- A section of an input begins within it.
use Rattle.std.proofs.Common.{◌≤◌, ℕ, List, length, arith}
use Rattle.table_commands.specs.Sections.{IsSection}
use Rattle.table_commands.specs.declared.explanations.sections.Section.{Section}
use Rattle.table_commands.specs.declared.explanations.sections.Section.TheVariants as section

pub begins_within : (section : Section) (input : List ℕ) (start : ℕ) (text : List ℕ) → IsSection section input start text → start ≤ length input
begins_within section.Whole input start text is = omega (arith, is.0)
begins_within section.First input start text is = omega (arith, is.0)
begins_within section.Second input start text is = omega (arith, is.begins)
begins_within section.Third input start text is = omega (arith, is.begins)
