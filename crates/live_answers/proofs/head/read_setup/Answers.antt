use Rattle.std.proofs.Common.{ap, refl}
use Rattle.run_texts.specs.Views.{with_digits}
use Rattle.table_core.proofs.Known.{if_known}
use Rattle.live_answers.proofs.HeadLemmas.{with_header}
use Rattle.live_answers.proofs.head.read_setup.Goals as goal

pub returns-clause-reads : goal.returns-clause-reads
returns-clause-reads g c = if_known (g.I.Read.remaining c.args.input.now) _ (λ text known.
    let (rows, left, is) = with_header text _ _ c.in_ok-head.head (rw known at c.in_ok-head.ensures.reads) c.in_ok-take_header.ensures.takes in (
      _,
      left,
      is,
      record {
        accounts = c.in_ok-setup.ensures.accounts;
        subscribers = ap with_digits c.in_ok-setup.ensures.subscribers;
        tariff = c.in_ok-setup.ensures.tariff;
        wanted = rw c.in_ok-setup.ensures.service refl;
        least = rw c.in_ok-setup.ensures.service refl;
        tccd = rw c.in_ok-setup.ensures.service refl;
        limit = c.in_ok-setup.ensures.limit;
      },
    ))
