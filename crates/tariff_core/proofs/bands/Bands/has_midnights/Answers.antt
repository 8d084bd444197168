use Rattle.std.proofs.Common.{◌≡◌, ◌∙◌, ℕ, Bool, true, sym, arith}
use Rattle.tariff_core.specs.Bands.{has_band}
use Rattle.tariff_core.specs.Digits.{text_of_digits}
use Rattle.tariff_core.specs.Tariff.{Indexes}
use Rattle.tariff_core.proofs.IndexLemmas.{finds_at, key_above, key_below, key_day, one_more}
use Rattle.tariff_core.proofs.RangeLemmas.{band_key_at}
use Rattle.tariff_core.proofs.WeekdayLemmas.{all_weekdays, fails_weekday}
use Rattle.tariff_core.proofs.bands.Bands.has_midnights.Goals as goal

pub loop-day-init : goal.loop-day-init
loop-day-init c weekday low high before = absurd (omega (arith, before, key_above c.self.inside.by_days c.key_days-first.result.0 weekday c.key_days-first.ensures.first low))

pub loop-day-preserved : goal.loop-day-preserved
loop-day-preserved c =
    let indexed : Indexes c.self.inside.by_days c.self.inside.index c.args.self.now = rw (← c.self.view_is) c.self.invariant.indexed in
    one_more c.self.inside.by_days (λ weekday. has_band (text_of_digits c.args.prefix) weekday 0 c.args.self.now ≡ true) c.loop-day.day c.loop-day.invariant (λ weekday key.
    sym (finds_at c.self.inside.by_days c.self.inside.index c.args.self.now (band_key_at c.args.prefix c.loop-day.day 0) weekday indexed key)
    ∙ sym c.contains_key.ensures ∙ c.if-not-contains_key.false)

pub returns-then-not-contains_key : goal.returns-then-not-contains_key
returns-then-not-contains_key c =
    let indexed : Indexes c.self.inside.by_days c.self.inside.index c.args.self.now = rw (← c.self.view_is) c.self.invariant.indexed in
    let (weekday, key) = key_day c.self.inside.by_days c.key_days-first.result.0 c.key_days-first.result.1 c.loop-day.day c.key_days-first.ensures.first c.key_days-first.ensures.end c.loop-day.auto.day c.loop-day-test.true in
    let p : ℕ → Bool = λ day. has_band (text_of_digits c.args.prefix) day 0 c.args.self.now in
    sym (fails_weekday p weekday key.low key.high
    (sym (finds_at c.self.inside.by_days c.self.inside.index c.args.self.now (band_key_at c.args.prefix c.loop-day.day 0) weekday indexed key)
    ∙ sym c.contains_key.ensures ∙ c.if-not-contains_key.true))

pub returns : goal.returns
returns c =
    let p : ℕ → Bool = λ day. has_band (text_of_digits c.args.prefix) day 0 c.args.self.now in
    sym (all_weekdays p (λ weekday low high. c.loop-day.invariant weekday low high
    (omega (arith, c.loop-day-test.false, key_below c.self.inside.by_days c.key_days-first.result.1 weekday c.key_days-first.ensures.end high))))
