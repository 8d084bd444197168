use Rattle.table_core.proofs.TableLemmas.{noted}
use Rattle.table_core.proofs.table.Table.next_row.Goals as goal

pub returns-clause-steps : goal.returns-clause-steps
returns-clause-steps g c = λ left has.
    noted g.R.Read.remaining c.args.self.now c.take_row-found.new.self left c.take_row-found.result c.err-self.result c.err-self.ensures.value
    (c.take_row-found.ensures.steps left has)
