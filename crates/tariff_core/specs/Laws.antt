-- The routes of a tariff, in words of their own.
use Rattle.std.specs.Prelude.{◌≡◌, ◌<◌, ◌≤◌, ℕ, true, List, Ok, All, Contains}
use Rattle.table_core.specs.Rows.{Fields}
use Rattle.price_core.specs.RatesOf.{rates_of}
use Rattle.price_core.specs.declared.times.TheConstants.{DAY}
use Rattle.tariff_core.specs.Bands.{Band, counts_on}
use Rattle.tariff_core.specs.Routes.{HasNoRoute, IsPrefixFor, IsRoute}
use Rattle.tariff_core.specs.TariffTable.{tariff_of}
use Rattle.price_core.specs.declared.route.Route.{Route}

-- two rows with the same prefix and the same start that count on a common day are the same, and each starts within a day
pub record IsProper (bands : List Band) : Type 0 where
  pub apart : (one other : Band) (day : ℕ) → Contains bands one → Contains bands other → one.prefix ≡ other.prefix → one.start ≡ other.start
      → 1 ≤ day → day ≤ 7 → counts_on day one ≡ true → counts_on day other ≡ true → one ≡ other
  pub within : All (λ band. band.start < DAY) bands

-- a tariff that was read of a table
abbrev pub IsReadTariff : List Band → Type 0
IsReadTariff bands = (rows : List Fields) × (tariff_of rows ≡ Ok bands)

-- a tariff that was read is proper
abbrev pub ReadTariffsAreProper : Type 0
ReadTariffsAreProper = (bands : List Band) → IsReadTariff bands → IsProper bands

-- one prefix of a tariff counts for a called number
abbrev pub OnePrefixCounts : Type 0
OnePrefixCounts = (bands : List Band) (called one other : List ℕ) → IsPrefixFor bands called one → IsPrefixFor bands called other → one ≡ other

-- in a proper tariff two routes of a called number at a moment cost the same and switch at the same moment
abbrev pub RoutesAreAlike : Type 0
RoutesAreAlike =
    (bands : List Band) (called : List ℕ) (now : ℕ) (one other : Route) → IsProper bands → IsRoute bands called now one → IsRoute bands called now other
    → (rates_of one.plan ≡ rates_of other.plan) × (one.switch_at ≡ other.switch_at)

-- and a called number that has a route begins with a prefix of the tariff
abbrev pub RoutesHavePrefixes : Type 0
RoutesHavePrefixes = (bands : List Band) (called : List ℕ) (now : ℕ) (route : Route) → IsRoute bands called now route → HasNoRoute bands called → ⊥
