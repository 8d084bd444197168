-- An input of which one byte more than the most was asked for.
use Rattle.std.proofs.Common.{◌≡◌, ℕ, Bool, true, false, ◌≤◌, List, [], ◌++◌, length, min, take, Option, Some, None, ap, ◌∙◌, arith, length-take}
use Rattle.std.specs.Prelude.{IfSome, Result, Ok, option_map, if◌then◌else◌}
use Rattle.std.specs.declared.io.ErrorKind.{ErrorKind}
use Rattle.std.proofs.lemmas.Bool.Decides.{nat_tests}
use Rattle.std.proofs.lemmas.List.{take_all}
use Rattle.run_values.specs.declared.run_fault.RunFault.TheVariants as run
use Rattle.table_commands.specs.Faults.{RefusesCommand, UnlessMayAlwaysCome}
use Rattle.table_commands.specs.Input.{failed_input, is_out_of_memory, sized}
use Rattle.table_commands.specs.declared.fault.Fault.{Fault}
use Rattle.table_commands.specs.declared.fault.Fault.TheVariants as fault

pub fits : (known : Option (List ℕ)) (bytes : List ℕ) → IfSome (option_map (take 16777217) known) (λ text. bytes ≡ [] ++ text)
    → length bytes ≤ 16777216 → IfSome known (λ text. sized text ≡ Ok bytes)
fits None bytes read short = tt
fits (Some text) bytes read short =
    let count : length bytes ≡ min 16777217 (length text) = ap length read ∙ length-take 16777217 text in
    let within : length text ≤ 16777216 = omega arith in
    let all : bytes ≡ text = read ∙ take_all 16777217 text (omega arith) in
    rw all (grind (arith, nat_tests))

-- what was read then is the input
pub same_bytes : (known : Option (List ℕ)) (bytes : List ℕ) → IfSome (option_map (take 16777217) known) (λ text. bytes ≡ [] ++ text)
    → length bytes ≤ 16777216 → IfSome known (λ text. bytes ≡ text)
same_bytes None bytes read short = tt
same_bytes (Some text) bytes read short =
    let count : length bytes ≡ min 16777217 (length text) = ap length read ∙ length-take 16777217 text in
    read ∙ take_all 16777217 text (omega arith)

-- what says that an input failed may come at any input
failed_by : (fact : Type 0) (out : Bool) → UnlessMayAlwaysCome (if out then fault.Run run.OutOfMemory else fault.Device) fact
failed_by fact true = tt
failed_by fact false = tt

pub failed_may_come : {Y : Type 0} (why : ErrorKind) (ending : Fault) (meaning : Result Y Fault) → ending ≡ failed_input why → RefusesCommand ending meaning
failed_may_come why ending meaning is = rw is (failed_by _ (is_out_of_memory why))
