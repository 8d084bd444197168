use Rattle.std.proofs.Common.{refl}
use Rattle.table_commands.proofs.WalkLemmas.{goes_as}
use Rattle.table_commands.proofs.explanations.walk.Walk.pass.Goals.{then-ends_row, else-ends_row}
use Rattle.table_commands.proofs.explanations.walk.Walk.pass.Goals as goal

pub returns-clause-walked : goal.returns-clause-walked
returns-clause-walked c = λ front byte steps walked.
    goes_as c.args.self.now.place c.args.place c.args.self.now.above c.if-ends_row.self.above front byte c.ends_row.result c.ends_row.ensures
    (elim c.if-ends_row.branch [ then-ends_row w ↦ rw (w.if-ends_row.true, w.self-is) refl | else-ends_row w ↦ rw (w.if-ends_row.false, w.self-is) refl ])
    steps walked
