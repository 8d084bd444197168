-- A called number has one route at a moment, or none.
use Rattle.std.proofs.Common.{◌≡◌, ◌≤◌, ◌%◌, ◌∙◌, ℕ, true, Option, Some, None, List, inl, inr, length, take, refl, sym, ap, subst, arith}
use Rattle.std.proofs.lemmas.Bool.{cases_lt}
use Rattle.std.proofs.lemmas.List.{take_at}
use Rattle.std.proofs.lemmas.List.Elements.{All-contains}
use Rattle.tariff_core.specs.Bands.{Band, counts_on, weekday}
use Rattle.tariff_core.specs.Laws.{IsProper, OnePrefixCounts, RoutesAreAlike, RoutesHavePrefixes}
use Rattle.price_core.specs.Rates.{Rates}
use Rattle.tariff_core.specs.Routes.{BeginsWith, IsBandAt, IsOnly, IsPrefixFor, IsSwitch, Switches}
use Rattle.price_core.specs.declared.times.TheConstants.{DAY}
use Rattle.tariff_core.proofs.PrefixLemmas.{weekday_within}

-- ---- the prefix

-- two fronts of a number that are equally long
same_front : (called one other : List ℕ) → BeginsWith called one → BeginsWith called other → length one ≡ length other → one ≡ other
same_front called one other begins too long =
    sym (take_at one begins.0 (length one) refl) ∙ ap (take (length one)) (sym begins.1 ∙ too.1) ∙ take_at other too.0 (length one) (sym long)

no_longer : (bands : List Band) (called one other : List ℕ) → IsPrefixFor bands called one → IsPrefixFor bands called other → length one ≤ length other
no_longer bands called one other is too =
    let (place, band, within, at, own) = is.listed in
    let L : List ℕ → Type 0 = λ p. length p ≤ length other in
    let B : List ℕ → Type 0 = BeginsWith called in
    subst L own (All-contains (λ (b : Band). BeginsWith called b.prefix → length b.prefix ≤ length other) bands band too.longest (place, within, at) (subst B (sym own) is.begins))

pub one_prefix : OnePrefixCounts
one_prefix bands called one other is too =
    same_front called one other is.begins too.begins (omega (arith, no_longer bands called one other is too, no_longer bands called other one too is))

-- ---- the row

module _ (bands : List Band) (proper : IsProper bands) (prefix : List ℕ) where
  not_after : (moment : ℕ) (band another : Band) → IsBandAt bands prefix moment band → IsBandAt bands prefix moment another → another.start ≤ band.start
  not_after moment band another at too =
      All-contains (λ (b : Band). b.prefix ≡ prefix → counts_on (weekday moment) b ≡ true → b.start ≤ moment % DAY → b.start ≤ band.start) bands another at.latest too.listed too.own too.counts too.begun

  same_band : (moment : ℕ) (band another : Band) → IsBandAt bands prefix moment band → IsBandAt bands prefix moment another → band ≡ another
  same_band moment band another at too =
      let (low, high) = weekday_within moment in
      proper.apart band another (weekday moment) at.listed too.listed (at.own ∙ sym too.own)
      (omega (arith, not_after moment band another at too, not_after moment another band too at)) low high at.counts too.counts

  -- ---- the switch

  -- a row that counts all the day has no switch
  no_switch : (band : Band) (now at : ℕ) (rate : Option ℕ) → IsOnly bands prefix band now → IsSwitch bands prefix band now at rate → ⊥
  no_switch band now at rate only switch = switch.is_another (same_band at switch.next band switch.is_next (only at switch.later switch.within_day))

  -- none comes before another
  not_before : (band : Band) (now at also : ℕ) (rate another : Option ℕ) → IsSwitch bands prefix band now at rate → IsSwitch bands prefix band now also another → also ≤ at
  not_before band now at also rate another switch too = elim (cases_lt at also) [
    | inl before ↦ absurd (switch.is_another (same_band at switch.next band switch.is_next (too.first at switch.later before)))
    | inr after ↦ after
  ]

  same_switch : (band : Band) (now : ℕ) (at also : Option ℕ) (rate another : Option ℕ) → Switches bands prefix band now at rate → Switches bands prefix band now also another
      → (at ≡ also) × (rate ≡ another)
  same_switch band now None None rate another is too = (refl, is.1 ∙ sym too.1)
  same_switch band now None (Some also) rate another is too = absurd (no_switch band now also another is.0 too)
  same_switch band now (Some at) None rate another is too = absurd (no_switch band now at rate too.0 is)
  same_switch band now (Some at) (Some also) rate another is too =
      let moment : at ≡ also = omega (arith, not_before band now at also rate another is too, not_before band now also at another rate too is) in
      let At : ℕ → Type 0 = λ m. IsBandAt bands prefix m too.next in
      let next = same_band at is.next too.next is.is_next (subst At (sym moment) too.is_next) in
      (ap Some moment, is.second_rate ∙ ap (λ (b : Band). Some b.rate) next ∙ sym too.second_rate)

-- ---- the route

abbrev rates : ℕ → ℕ → Option ℕ → ℕ → ℕ → ℕ → Rates
rates fee before after free first step = record { fee = fee; before = before; after = after; free = free; first = first; step = step }

pub same_terms : RoutesAreAlike
same_terms bands called now one other proper is too =
    let prefix = one_prefix bands called is.prefix too.prefix is.is_prefix too.is_prefix in
    let A : List ℕ → Type 0 = λ p. IsBandAt bands p now too.band in
    let band = same_band bands proper is.prefix now is.band too.band is.is_band (subst A (sym prefix) too.is_band) in
    let S : List ℕ → Type 0 = λ p. Switches bands p too.band now other.switch_at other.plan.after in
    let T : Band → Type 0 = λ b. Switches bands is.prefix b now other.switch_at other.plan.after in
    let switches = same_switch bands proper is.prefix is.band now one.switch_at other.switch_at one.plan.after other.plan.after is.switches (subst T (sym band) (subst S (sym prefix) too.switches)) in
    let fee : one.plan.fee ≡ other.plan.fee = is.fee ∙ ap (λ (b : Band). b.fee) band ∙ sym too.fee in
    let before : one.plan.before ≡ other.plan.before = is.first_rate ∙ ap (λ (b : Band). b.rate) band ∙ sym too.first_rate in
    let free : one.plan.free ≡ other.plan.free = is.free ∙ ap (λ (b : Band). b.free) band ∙ sym too.free in
    let first : one.plan.first ≡ other.plan.first = is.first ∙ ap (λ (b : Band). b.first) band ∙ sym too.first in
    let step : one.plan.step ≡ other.plan.step = is.step ∙ ap (λ (b : Band). b.step) band ∙ sym too.step in
    let same : rates one.plan.fee one.plan.before one.plan.after one.plan.free one.plan.first one.plan.step
    ≡ rates other.plan.fee other.plan.before other.plan.after other.plan.free other.plan.first other.plan.step =
    rw (fee, before, switches.1, free, first, step) refl in
    (same, switches.0)

pub no_route : RoutesHavePrefixes
no_route bands called now route is none =
    let B : List ℕ → Type 0 = BeginsWith called in
    All-contains (λ (b : Band). BeginsWith called b.prefix → ⊥) bands is.band none is.is_band.listed (subst B (sym is.is_band.own) is.is_prefix.begins)
