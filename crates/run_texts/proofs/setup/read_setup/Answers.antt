use Rattle.std.proofs.Common.{[], ap, arith, refl, Ok}
use Rattle.table_core.proofs.TakingLemmas.{refused_gives, taken_gives}
use Rattle.run_texts.specs.Views.{setup_in}
use Rattle.run_texts.proofs.SetupLemmas.{nothing_named}
use Rattle.run_texts.proofs.setup.read_setup.Goals as goal

pub take_table-requires-clause-has : goal.take_table-requires-clause-has
take_table-requires-clause-has g c = (tt {0}, record { accounts = []; subscribers = [] }, nothing_named _ c.new.ensures)

pub returns-in_err-take_table-clause-means : goal.returns-in_err-take_table-clause-means
returns-in_err-take_table-clause-means g c =
    refused_gives (g.I.Read.remaining c.args.reader) _ (tt {0}) (record { accounts = []; subscribers = [] }) _ (λ setup. setup) setup_in (nothing_named _ c.new.ensures) (λ why. refl) _ c.in_err-take_table.field-0.0
    c.from_residual.ensures.1 c.in_err-take_table.ensures.taken

pub returns-clause-means : goal.returns-clause-means
returns-clause-means g c =
    taken_gives (g.I.Read.remaining c.args.reader) _ (tt {0}) (record { accounts = []; subscribers = [] }) _ (λ setup. setup) setup_in (nothing_named _ c.new.ensures) c.take_table.new.taker.directory _
    (λ text named is. ap Ok is.is) c.in_ok-take_table.ensures.taken

pub returns-clause-within : goal.returns-clause-within
returns-clause-within g c =
    let (rows, named, is, few) = c.in_ok-take_table.ensures.has (tt {0}) (record { accounts = []; subscribers = [] }) (nothing_named _ c.new.ensures) in
    record { accounts = is.few; subscribers = omega (arith, few, is.count) }
