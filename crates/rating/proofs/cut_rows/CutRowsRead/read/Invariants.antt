use Rattle.std.specs.Prelude.{option_map}
use Rattle.std.specs.Io.KnownBytes.{Keeps}
use Rattle.rating.specs.Cuts.{passed_text, cut_cursor, reader_of}
use Rattle.rating.proofs.cut_rows.CutRowsRead.read.Given as goal

-- what was read so far was left out
abbrev pub invariant-loop-turn : goal.invariant-loop-turn
invariant-loop-turn g l =
    Keeps (option_map (passed_text (cut_cursor l.fn.self)) (g.R.Read.remaining (reader_of l.fn.self))) (option_map (passed_text (cut_cursor l.self)) (g.R.Read.remaining (reader_of l.self)))
