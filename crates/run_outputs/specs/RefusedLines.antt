-- The line about what the accounts of a run refused.
use Rattle.std.specs.Prelude.{◌==◌, ◌++◌, ℕ, List, [], codes, length, if◌then◌else◌}
use Rattle.std.specs.Fmt.{decimal}
use Rattle.account_core.specs.Faults.{account_fault_name}
use Rattle.account_core.specs.declared.fault.AccountFault.{AccountFault}
use Rattle.account_core.specs.declared.fault.AccountFault.TheVariants as fault
use Rattle.run_outputs.specs.declared.refusals.Refusals.{Refusals}

-- what is in front of a kind: the beginning of the line before the first one, and a comma before others
abbrev pub before_kind : List ℕ → List ℕ
before_kind line = if length line == 0 then codes "prepaid: refused: " else line ++ codes ", "

-- the line with a kind more, `N KIND`, where it came
abbrev pub with_kind : List ℕ → ℕ → AccountFault → List ℕ
with_kind line count why = if count == 0 then line else before_kind line ++ (decimal count ++ (codes " " ++ account_fault_name why))

-- the kinds that came, in the order in which an account judges them
abbrev pub kinds_of : Refusals → List ℕ
kinds_of r =
    with_kind (with_kind (with_kind (with_kind (with_kind (with_kind [] r.gate_closed fault.GateClosed) r.out_of_range fault.OutOfRange)
    r.not_open fault.NotOpen) r.call_used fault.CallUsed) r.history_full fault.HistoryFull) r.out_of_memory fault.OutOfMemory

-- a line that has anything, with its end
abbrev pub ended_line : List ℕ → List ℕ
ended_line line = if length line == 0 then [] else line ++ codes "\n"

-- `prepaid: refused: 2 HistoryFull, 1 OutOfMemory`; nothing where nothing was refused
abbrev pub refused_line : Refusals → List ℕ
refused_line refusals = ended_line (kinds_of refusals)
