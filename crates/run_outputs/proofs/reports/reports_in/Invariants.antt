use Rattle.std.proofs.Common.{take}
use Rattle.run_outputs.specs.KeptRecords.{HaveReports}
use Rattle.run_outputs.proofs.reports.reports_in.Given as goal

-- the reports of the posts so far
abbrev pub invariant-loop-at : goal.invariant-loop-at
invariant-loop-at l = HaveReports l.reports (take l.at-index l.given)
