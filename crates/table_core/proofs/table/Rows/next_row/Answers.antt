use Rattle.std.proofs.Common.{inl}
use Rattle.table_core.proofs.RowLemmas.{takes_row}
use Rattle.table_core.proofs.table.Rows.next_row.Goals as goal

pub returns-in-Ok-clause-takes : goal.returns-in-Ok-clause-takes
returns-in-Ok-clause-takes g c = λ left has.
    takes_row g.R.Read.remaining c.args.self.now _ c.in-Ok.found left has (c.in-Ok.ensures.reads has.untrimmed has.ready) (inl (c.in-Ok.ensures.ready has.untrimmed))
