use Rattle.run_texts.proofs.SetupLemmas.{row_listed}
use Rattle.run_texts.proofs.setup.SetupTakeRow.take.Goals as goal

pub list_row-requires : goal.list_row-requires
list_row-requires c = c.requires.3.few

pub returns : goal.returns
returns c = λ terms rows named is. row_listed c.args.self.now.directory c.list_row.new.directory rows _ named c.list_row.result is c.list_row.ensures.means c.list_row.ensures.few c.list_row.ensures.count
