use Rattle.std.proofs.Common.{◌≡◌, ◌≢◌, ℕ, List, All, take}
use Rattle.std.specs.Io.KnownBytes.{Consumes}
use Rattle.live_answers.proofs.line.take_line.Given as goal

-- of what was taken, which has no LF, the line keeps what there is room for
abbrev pub invariant-loop-turn : goal.invariant-loop-turn
invariant-loop-turn g l =
    (done : List ℕ) × (l.line.items ≡ take 4097 done) × All (λ byte. byte ≢ 10) done
    × Consumes (g.I.Read.remaining l.fn.input) (g.I.Read.remaining l.input) done
