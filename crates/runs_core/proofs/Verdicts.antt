-- The verdicts on posts.
use Rattle.std.proofs.Common.{ℕ, Option, Some, None, List}
use Rattle.std.specs.Prelude.{IfNone, IfSome}
use Rattle.tariff_core.specs.Bands.{Band}
use Rattle.tariff_core.specs.Routes.{HasNoRoute, IsRoute}
use Rattle.price_core.specs.declared.route.Route.{Route}
use Rattle.runs_core.specs.Verdicts.{IsRouted}

pub routed_by : (bands : List Band) (called : List ℕ) (at : ℕ) (route : Option Route) → IfNone route (HasNoRoute bands called) → IfSome route (IsRoute bands called at)
    → IsRouted bands called at route
routed_by bands called at None none some = none
routed_by bands called at (Some route) none some = some
