use Rattle.std.proofs.Common.{◌≡◌, ◌≤◌, List, length, map}
use Rattle.table_core.specs.Rows.{Fields, HasRowsLeft}
use Rattle.rating.specs.Lines.{header_line, shown}
use Rattle.rating.specs.Scores.{IsBoundedScore}
use Rattle.rating.proofs.RateLemmas.{IsUnderWay}
use Rattle.rating.proofs.rating.rate_rows.Given as goal

-- the rows so far are rated
abbrev pub invariant-loop-turn : goal.invariant-loop-turn
invariant-loop-turn g l =
    IsBoundedScore l.score × (l.score.rows ≤ l._turn)
    × ((header : Fields) (left : List Fields) → HasRowsLeft g.I.Read.remaining l.fn.rows (map shown left) → l.fn.text.items ≡ header_line header → length header ≡ l.rater.width
    → IsUnderWay g.I.Read.remaining l.rater.differing (record { bands = l.rater.tariff.now; header = header; columns = l.rater.columns; rows = left })
    l.rows (g.O.Write.contents l.fn.output) (g.O.Write.contents l.output) l.text.items l.score)
