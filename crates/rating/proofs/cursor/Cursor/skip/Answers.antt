use Rattle.rating.proofs.PassLemmas.{skipped}
use Rattle.rating.proofs.cursor.Cursor.skip.Goals as goal

pub returns-in-Some-clause-passes : goal.returns-in-Some-clause-passes
returns-in-Some-clause-passes c =
    skipped c.args.self.now c.args.piece.now c.memchr.result c.min-sure.result c.sure.result c.in-Some.end c.memchr.ensures c.sure.ensures
    (rw c.unwrap_or-plain.ensures at c.min-sure.ensures) (rw c.in-Some.is at c.memrchr.ensures)
