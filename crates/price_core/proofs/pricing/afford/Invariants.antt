use Rattle.std.proofs.Common.{◌+◌, ◌-◌, ◌<◌, ◌≤◌, min}
use Rattle.price_core.specs.Ceiling.{ceiling_of}
use Rattle.price_core.specs.RatesOf.{rates_of}
use Rattle.price_core.proofs.pricing.afford.Given as goal

-- the money covers the units below, and not those beyond
abbrev pub invariant-loop-covered : goal.invariant-loop-covered
invariant-loop-covered l =
    let most = min l.wanted (864000 - (l.old.before + l.old.after)) in
    (l.covered < l.beyond) × (l.beyond ≤ most + 1)
    × (1 ≤ l.covered → ceiling_of (rates_of l.plan) l.old l.covered ≤ l.money)
    × (l.beyond ≤ most → l.money < ceiling_of (rates_of l.plan) l.old l.beyond)

abbrev pub decreases-loop-covered : goal.decreases-loop-covered
decreases-loop-covered l = l.beyond - l.covered
