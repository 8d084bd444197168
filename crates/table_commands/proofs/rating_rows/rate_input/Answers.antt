use Rattle.rating.specs.SaidOf.{rate_wish_of}
use Rattle.table_core.proofs.Known.{at_known, if_known}
use Rattle.table_commands.proofs.RateLemmas.{not_rated}
use Rattle.table_commands.proofs.rating_rows.rate_input.Goals as goal

pub returns-in-Err-clause-rated : goal.returns-in-Err-clause-rated
returns-in-Err-clause-rated g c = if_known (g.I.Read.remaining c.args.input) _ (λ text known.
    not_rated c.args.explains (rate_wish_of c.args.ask.now) text c.report_unrated.result _ _ c.in-Err.why (at_known _ _ text known c.in-Err.ensures.ends) c.report_unrated.ensures)
