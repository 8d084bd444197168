use Rattle.std.proofs.Common.{refl}
use Rattle.rating.specs.Cuts.{cut_cursor}
use Rattle.rating.proofs.PassLemmas.{ends_there, none_read}
use Rattle.rating.proofs.cut_rows.CutRowsRead.read.Goals as goal

pub returns-then-count-eq0-clause-bytes : goal.returns-then-count-eq0-clause-bytes
returns-then-count-eq0-clause-bytes g c =
    let read = rw c.if-count-eq0.true at c.in_ok-count.ensures.bytes in (
      none_read (cut_cursor c.args.self.now) c.loop-turn.self.cursor _ _ _ c.loop-turn.invariant read.0,
      λ none some. ends_there c.loop-turn.self.cursor _ (read.1 refl some),
    )
