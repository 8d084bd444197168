use Rattle.std.proofs.Common.{◌≡◌, ℕ, List, ◌++◌, All, map}
use Rattle.std.specs.Map.{keys_of}
use Rattle.run_outputs.specs.KeptRecords.{HaveAccounts, HaveReports, HaveStarts}
use Rattle.run_outputs.specs.Records.{IsRecord, Run}
use Rattle.run_outputs.specs.declared.starts.Start.{Start}
use Rattle.run_outputs.proofs.recording.list.Given as goal

-- the records of the starts so far
abbrev pub invariant-loop-call : goal.invariant-loop-call
invariant-loop-call l =
    (done : List (ℕ × Start)) × (done ++ l.call-iterator ≡ l.starts.entries) × (map (λ call. call.call) l.records.items ≡ keys_of done)
    × ((run : Run) → run.setup ≡ l.setup → HaveStarts l.starts run.given → HaveReports l.reports run.given → HaveAccounts l.accounts run.books → All (IsRecord run) l.records.items)
