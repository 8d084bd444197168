use Rattle.tariff_core.proofs.EnteringLemmas.{Entered}
use Rattle.tariff_core.proofs.bands.index_row.Given as goal

-- the row is found on the days so far
abbrev pub invariant-loop-day : goal.invariant-loop-day
invariant-loop-day l = Entered l.first l.day l.fn.index l.row l.index
