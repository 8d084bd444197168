use Rattle.tariff_core.proofs.Routing.{no_route, one_prefix, same_terms}
use Rattle.tariff_core.proofs.laws.routes_are_single.Goals as goal

pub returns : goal.returns
returns c = record { prefix = one_prefix; route = same_terms; listed = no_route }
