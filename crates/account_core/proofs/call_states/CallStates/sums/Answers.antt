use Rattle.std.proofs.Common.{ap, sym, ◌∙◌}
use Rattle.std.proofs.lemmas.Result.{IfOk-weaker}
use Rattle.account_core.specs.Listings.{listed}
use Rattle.account_core.proofs.RisingLemmas.{sorted}
use Rattle.account_core.proofs.SumLemmas.{listed_sums}
use Rattle.account_core.proofs.call_states.CallStates.sums.Goals as goal

pub returns-in-Rising : goal.returns-in-Rising
returns-in-Rising c =
    IfOk-weaker c.list_sums.result _ _
    (λ sums is h tells. listed_sums h c.args.self.now tells c.in-Rising.calls.now (sym c.listing.ensures.all ∙ ap listed c.in-Rising.is)
    (sorted c.in-Rising.calls.now (rw c.in-Rising.is at c.listing.ensures.rising)) sums.items is)
    c.list_sums.ensures

pub returns-in-Mixed : goal.returns-in-Mixed
returns-in-Mixed c =
    IfOk-weaker c.map_sums.result _ _
    (λ sums is h tells. listed_sums h c.args.self.now tells c.in-Mixed.calls.now.entries (sym c.listing.ensures.all ∙ ap listed c.in-Mixed.is) c.map_sums.ensures.ordered sums.items is)
    c.map_sums.ensures.sums
