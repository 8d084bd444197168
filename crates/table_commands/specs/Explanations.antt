-- What is said of a fault behind its line.
use Rattle.std.specs.Prelude.{◌≡◌, Bool, false, List, ℕ, Option, Some, None, Result, ⊤, IfErr, IfSome, if◌then◌else◌}
use Rattle.table_commands.specs.Slips.{Explains}
use Rattle.table_commands.specs.declared.explanations.slip.Slip.{Slip}
use Rattle.table_commands.specs.declared.explanations.slip.Slip.TheVariants as slip
use Rattle.table_commands.specs.declared.fault.Fault.{Fault}
use Rattle.table_commands.specs.declared.fault.Fault.TheVariants as fault
use Rattle.table_commands.specs.declared.fault.TableName.TheVariants as table_name

-- the fault of a table in an input, which has three sections or is that table
abbrev pub slip_of : Bool → Fault → Option Slip
slip_of in_sections (fault.Tariff row) = Some (if in_sections then slip.RunTariff row else slip.Tariff row)
slip_of in_sections (fault.Table table_name.Reports row) = Some (slip.Reports row)
slip_of in_sections (fault.Table table_name.Ops row) = Some (slip.Ops row)
slip_of in_sections (fault.Table table_name.Book row) = Some (slip.Book row)
slip_of in_sections (fault.Table table_name.Setup row) = Some (slip.Setup row)
slip_of in_sections (fault.Table table_name.Script row) = Some (slip.Script row)
slip_of in_sections why = None

-- a text is said of a fault over an input: where a row has the fault, it explains that
abbrev pub IsSaidOfFault : Bool → List ℕ → Fault → List ℕ → Type 0
IsSaidOfFault in_sections input why text = IfSome (slip_of in_sections why) (λ slip. Explains input slip text)

-- a fault of the words, of which `clap` says what it does
abbrev pub IsOfWords : Fault → Type 0
IsOfWords fault.Arguments = ⊤
IsOfWords fault.Config = ⊤
IsOfWords why = ⊥

-- what is said of the fault of an answer to an input: nothing where that isn't asked for; over an input that is known, a text that explains the fault
pub record IsSaidOfAnswer {X : Type 0} (explaining in_sections : Bool) (input : Option (List ℕ)) (answer : Result X Fault) (more : Option (List ℕ)) : Type 0 where
  pub only : explaining ≡ false → more ≡ None
  pub said : IfSome input (λ text. IfErr answer (λ why. IfSome more (λ said. IsSaidOfFault in_sections text why said)))
