use Rattle.table_core.proofs.Known.{if_known}
use Rattle.live_answers.proofs.HeadLemmas.{said_by}
use Rattle.live_answers.proofs.head.read_head.Goals as goal

pub returns-clause-reads : goal.returns-clause-reads
returns-clause-reads g c = if_known (g.I.Read.remaining c.args.input.now) _ (λ text known.
    said_by text _ _ _ _ c.of.result (rw known at c.in_ok-tariff.ensures) c.in_ok-setup.ensures (rw (c.as_slice.ensures.value, c.as_slice-2.ensures.value) at c.of.ensures.says))
