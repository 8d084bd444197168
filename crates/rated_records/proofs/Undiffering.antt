-- A record of a run is rated to what it has paid.
use Rattle.std.proofs.Common.{◌≡◌, ◌≤◌, ◌+◌, ◌∙◌, ℕ, Bool, true, false, Option, Some, None, List, refl, sym, ap, subst, arith, inl, inr}
use Rattle.std.specs.Prelude.{◌⊎◌, nat_lt}
use Rattle.std.proofs.lemmas.Bool.Decides.{nat_tests}
use Rattle.run_outputs.specs.Records.{IsPrefixOf, Run, prefix_of}
use Rattle.run_outputs.specs.declared.call_record.CallRecord.{CallRecord}
use Rattle.cap_values.specs.NumberDigits.{digits_of_number}
use Rattle.cap_values.specs.declared.number.Number.{Number}
use Rattle.rated_records.specs.Laws.{IsRatedBy, RecordsHaveNoDifference, paid_rightly}
use Rattle.rating.specs.Rated.{Rating, Faulty, Priced}
use Rattle.rating.specs.declared.charge.PricedTimes.{PricedTimes}
use Rattle.rating.specs.declared.kind.RateKind.TheVariants as kind
use Rattle.run_laws.proofs.Unrouted.{routed}
use Rattle.run_laws.specs.Records.{CallsPayTheirRoute, IsUntalked, PaysItsRoute, RecordsAreInRange}
use Rattle.account_core.specs.Closed.{Closed}
use Rattle.account_core.specs.Refusals.{Knowing}
use Rattle.tariff_core.proofs.Routing.{one_prefix, same_terms}
use Rattle.tariff_core.specs.Laws.{IsProper}
use Rattle.price_core.specs.Price.{price_at, price_of}
use Rattle.price_core.specs.Rates.{Rates}
use Rattle.price_core.specs.RatesOf.{rates_of}
use Rattle.tariff_core.specs.Routes.{HasNoRoute, IsPrefixFor, IsRoute}
use Rattle.price_core.specs.declared.route.Route.{Route}

-- ---- the price by the tariff is what was paid

module _ (run : Run) (call : CallRecord) (proper : IsProper run.setup.tariff) where
  price_paid : IsUntalked call ⊎ PaysItsRoute run call → (route : Route) → IsRoute run.setup.tariff (digits_of_number call.called) call.start route
      → price_of (rates_of route.plan) call.times.before call.times.after ≡ call.paid
  price_paid (inl untalked) route is = ap (price_at (rates_of route.plan)) untalked.times ∙ sym untalked.paid
  price_paid (inr pays) route is =
      ap (λ (rates : Rates). price_at rates call.times) (same_terms run.setup.tariff (digits_of_number call.called) call.start route pays.route proper is pays.routed).0 ∙ sym pays.paid

  abbrev charge : ℕ → PricedTimes
  charge price = record { before = call.times.before; after = call.times.after; price = price }

  module _ (own : Option (List ℕ)) (its_own : IsPrefixOf run.setup.tariff (digits_of_number call.called) own) (paid : IsUntalked call ⊎ PaysItsRoute run call) (rating : Rating) where
    with_route : (prefix : List ℕ) (route : Route) → IsPrefixFor run.setup.tariff (digits_of_number call.called) prefix → IsRoute run.setup.tariff (digits_of_number call.called) call.start route
        → rating ≡ Priced prefix (charge (price_of (rates_of route.plan) call.times.before call.times.after)) (Some call.paid) → rating ≡ paid_rightly call own
    with_route prefix route is_prefix routed_at is = by own its_own
      where
        by : (its : Option (List ℕ)) → IsPrefixOf run.setup.tariff (digits_of_number call.called) its → rating ≡ paid_rightly call its
        by None none = absurd (routed run.setup.tariff (digits_of_number call.called) prefix is_prefix none)
        by (Some its) also =
            is ∙ ap (λ p. Priced p (charge (price_of (rates_of route.plan) call.times.before call.times.after)) (Some call.paid))
            (one_prefix run.setup.tariff (digits_of_number call.called) prefix its is_prefix also)
            ∙ ap (λ price. Priced its (charge price) (Some call.paid)) (price_paid paid route routed_at)

    without_route : HasNoRoute run.setup.tariff (digits_of_number call.called) → rating ≡ Faulty kind.NoRoute → rating ≡ paid_rightly call own
    without_route none is = by own its_own
      where
        by : (its : Option (List ℕ)) → IsPrefixOf run.setup.tariff (digits_of_number call.called) its → rating ≡ paid_rightly call its
        by None also = is
        by (Some its) also = absurd (routed run.setup.tariff (digits_of_number call.called) its also none)

    rated : (long : Bool) → nat_lt 864000 (call.times.before + call.times.after) ≡ long → call.times.before + call.times.after ≤ 864000 → IsRatedBy run call rating → rating ≡ paid_rightly call own
    rated true same within by = absurd (let no : ⊥ = grind (arith, nat_tests) in no)
    rated false same within by = elim (rw same at by) [
      | inl priced ↦ with_route priced.prefix priced.route priced.is_quote.is_prefix priced.is_quote.routed priced.is
      | inr unrouted ↦ without_route unrouted.0 unrouted.1
    ]

pub undiffering : (Stood : Closed → ℕ → Knowing) → CallsPayTheirRoute Stood → RecordsAreInRange Stood → RecordsHaveNoDifference Stood
undiffering Stood pays ranges run call rating is starts proper record_is lawful by =
    let Prefix : Number → Type 0 = λ called. IsPrefixOf run.setup.tariff (digits_of_number called) (prefix_of call) in
    rated run call proper (prefix_of call) (subst Prefix (sym record_is.from.called) record_is.from.prefix) (pays run call is starts record_is lawful) rating
    (nat_lt 864000 (call.times.before + call.times.after)) refl (ranges run call is record_is).times by
