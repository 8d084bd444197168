use Rattle.std.proofs.Common.{◌≢◌, ◌≤◌, All, length}
use Rattle.std.specs.Io.KnownBytes.{Consumes}
use Rattle.run_texts.proofs.section.read_line.Given as goal

-- what was taken is a line so far, which has no LF
abbrev pub invariant-loop-turn : goal.invariant-loop-turn
invariant-loop-turn g l =
    (length l.line.items ≤ l.most) × All (λ byte. byte ≢ 10) l.line.items × Consumes (g.I.Read.remaining l.fn.input) (g.I.Read.remaining l.input) l.line.items
