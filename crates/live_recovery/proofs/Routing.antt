-- What a dialogue says first, by its route.
use Rattle.std.proofs.Common.{◌≡◌, ◌∙◌, ℕ, Option, Some, None, List, refl, ap}
use Rattle.dialogue_core.specs.Phases.{Asks, Conditions, FirstAsk, Phase, Says}
use Rattle.dialogue_core.specs.Rules.{on_begin, reserve, seconds_to}
use Rattle.tariff_core.proofs.Routing.{no_route, same_terms}
use Rattle.tariff_core.specs.Bands.{Band}
use Rattle.tariff_core.specs.Laws.{IsProper}
use Rattle.price_core.specs.Rates.{Rates}
use Rattle.price_core.specs.RatesOf.{rates_of}
use Rattle.price_core.specs.declared.route.Route.{Route}
use Rattle.runs_core.specs.Verdicts.{IsRouted}

-- what a dialogue asks first, by what its route costs and when that switches
abbrev begun : ℕ → ℕ → ℕ → ℕ → Rates → Option ℕ → Says × Phase
begun call now wanted least plan switch =
    let t : Conditions = record { call = call; plan = plan; wanted = wanted; least = least; switch = seconds_to now switch } in (Asks (reserve t now), FirstAsk t)

-- what a dialogue says first, by its route
pub begins_alike : (bands : List Band) (called : List ℕ) (call now wanted least : ℕ) (one other : Option Route) → IsProper bands → IsRouted bands called now one → IsRouted bands called now other
    → on_begin call now wanted least one ≡ on_begin call now wanted least other
begins_alike bands called call now wanted least None None proper is too = refl
begins_alike bands called call now wanted least None (Some other) proper is too = absurd (no_route bands called now other too is)
begins_alike bands called call now wanted least (Some one) None proper is too = absurd (no_route bands called now one is too)
begins_alike bands called call now wanted least (Some one) (Some other) proper is too =
    let (rates_are, switch) = same_terms bands called now one other proper is too in
    ap (λ (r : Rates). begun call now wanted least r one.switch_at) rates_are ∙ ap (λ (s : Option ℕ). begun call now wanted least (rates_of other.plan) s) switch
