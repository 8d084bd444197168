use Rattle.std.specs.Io.KnownBytes.{Keeps}
use Rattle.run_texts.proofs.section.read_byte.Given as goal

-- nothing was taken
abbrev pub invariant-loop-turn : goal.invariant-loop-turn
invariant-loop-turn g l = Keeps (g.I.Read.remaining l.fn.input) (g.I.Read.remaining l.input)
