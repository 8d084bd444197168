-- What a row comes to by a tariff.
use Rattle.std.specs.Prelude.{◌≡◌, ◌⊎◌, ◌-◌, ◌==◌, ◌&&◌, ℕ, Bool, true, false, not, List, [], Option, Some, None, MatchResult}
use Rattle.table_core.specs.Rows.{Fields}
use Rattle.tariff_core.specs.Bands.{Band}
use Rattle.price_core.specs.Price.{price_of}
use Rattle.price_core.specs.RatesOf.{rates_of}
use Rattle.tariff_core.specs.Routes.{HasNoRoute, IsQuote}
use Rattle.price_core.specs.declared.route.Route.{Route}
use Rattle.rating.specs.Calls.{said_in}
use Rattle.rating.specs.Charges.{before_switch}
use Rattle.rating.specs.declared.call.Answered.{Answered}
use Rattle.rating.specs.declared.call.Talk.{Talk}
use Rattle.rating.specs.declared.call.Talk.TheVariants as talk
use Rattle.rating.specs.declared.charge.PricedTimes.{PricedTimes}
use Rattle.rating.specs.declared.columns.Columns.{Columns}
use Rattle.rating.specs.declared.kind.RateKind.{RateKind}
use Rattle.rating.specs.declared.kind.RateKind.TheVariants as kind

-- the prefix that counts, the times and their price, and what was charged; or a fault
pub data Rating : Type 0 where
  Priced : (prefix : List ℕ) → (charge : PricedTimes) → (paid : Option ℕ) → Rating
  Faulty : (kind : RateKind) → Rating

-- times and what they cost
abbrev pub charged : Route → ℕ → ℕ → PricedTimes
charged route before after = record { before = before; after = after; price = price_of (rates_of route.plan) before after }

-- what a call costs that was answered at a moment: its time is split at the switch of its route, and recorded times are as they are
abbrev pub charge_by : Route → ℕ → Talk → PricedTimes
charge_by route at (talk.Lasts time) = charged route (before_switch at time route.switch_at) (time - before_switch at time route.switch_at)
charge_by route at (talk.Splits before after) = charged route before after

-- no time, at no price
abbrev pub no_charge : PricedTimes
no_charge = record { before = 0; after = 0; price = 0 }

-- the number has a route at the answer, and the call costs what its plan says
pub record IsRatedByRoute (bands : List Band) (called : List ℕ) (answered : Answered) (paid : Option ℕ) (rating : Rating) : Type 0 where
  pub prefix : List ℕ
  pub start : ℕ
  pub route : Route
  pub is_quote : IsQuote bands called answered.at prefix start route
  pub is : rating ≡ Priced prefix (charge_by route answered.at answered.talk) paid

-- a call that was answered costs what its route says, and has a fault where it has none. One that wasn't costs nothing
abbrev pub IsPriced : List Band → List ℕ → Option Answered → Option ℕ → Rating → Type 0
IsPriced bands called None paid rating = rating ≡ Priced [] no_charge paid
IsPriced bands called (Some answered) paid rating =
    IsRatedByRoute bands called answered paid rating ⊎ (HasNoRoute bands called × (rating ≡ Faulty kind.NoRoute))

-- what a row comes to by a tariff, under a header of so many fields with these columns. It depends on nothing else
abbrev pub IsRated : List Band → ℕ → Columns → Fields → Rating → Type 0
IsRated bands width columns fields rating =
    MatchResult (said_in width columns fields) (λ said. IsPriced bands said.called said.answered said.paid rating) (λ why. rating ≡ Faulty why)

-- whether what was charged is another amount than the price
abbrev pub differs : Rating → Bool
differs (Priced prefix charge None) = false
differs (Priced prefix charge (Some paid)) = not (charge.price == paid)
differs (Faulty why) = false

-- whether a row has a fault
abbrev pub has_fault : Rating → Bool
has_fault (Priced prefix charge paid) = false
has_fault (Faulty why) = true

-- whether a row is all right
abbrev pub is_right : Rating → Bool
is_right rating = not (differs rating) && not (has_fault rating)
