use Rattle.std.proofs.Common.{◌≡◌, ◌∙◌, ℕ, Bool, false, sym, arith}
use Rattle.std.specs.Prelude.{◌&&◌}
use Rattle.std.proofs.lemmas.Bool.{and_left, and_right, and_from}
use Rattle.tariff_core.specs.Bands.{counts_on, has_band}
use Rattle.tariff_core.specs.Tariff.{band_of}
use Rattle.tariff_core.proofs.IndexLemmas.{counts_key, finds_at, key_above, key_below, key_day, one_more}
use Rattle.tariff_core.proofs.RangeLemmas.{band_key_at}
use Rattle.tariff_core.proofs.WeekdayLemmas.{none_of_weekdays, some_weekday}
use Rattle.tariff_core.proofs.bands.is_repeated.Goals as goal
use Rattle.tariff_core.proofs.bands.is_repeated.Goals.{else-counts_on-via-then-counts_on+else-contains_key, else-counts_on-via-else-counts_on}

pub loop-day-init : goal.loop-day-init
loop-day-init c bands indexed weekday low high before = absurd (omega (arith, before, key_above c.args.by_days c.key_days-first.result.0 weekday c.key_days-first.ensures.first low))

pub loop-day-preserved : goal.loop-day-preserved
loop-day-preserved c bands indexed =
    let band = band_of c.args.row.now in
    one_more c.args.by_days (λ weekday. (counts_on weekday band && has_band band.prefix weekday band.start bands) ≡ false) c.loop-day.day (c.loop-day.invariant bands indexed) (λ weekday key.
    elim c.else-counts_on.branch [
      | else-counts_on-via-then-counts_on+else-contains_key w ↦
          let asked = rw w.key.ensures at w.contains_key.ensures in
          and_right (counts_on weekday band) (has_band band.prefix weekday band.start bands)
          (sym (finds_at c.args.by_days c.args.index.now bands (band_key_at c.args.row.now.prefix c.loop-day.day c.args.row.now.start) weekday indexed key) ∙ sym asked ∙ w.if-contains_key.false)
      | else-counts_on-via-else-counts_on w ↦
          and_left (counts_on weekday band) (has_band band.prefix weekday band.start bands)
          (sym (counts_key c.args.by_days band weekday c.loop-day.day c.requires key.key) ∙ sym c.counts_on.ensures ∙ w.if-counts_on.false)
    ])

pub returns-then-contains_key : goal.returns-then-contains_key
returns-then-contains_key c bands indexed =
    let band = band_of c.args.row.now in
    let (weekday, key) = key_day c.args.by_days c.key_days-first.result.0 c.key_days-first.result.1 c.loop-day.day c.key_days-first.ensures.first c.key_days-first.ensures.end c.loop-day.auto.day c.loop-day-test.true in
    let asked = rw c.key.ensures at c.contains_key.ensures in
    let p : ℕ → Bool = λ day. counts_on day band && has_band band.prefix day band.start bands in
    sym (some_weekday p weekday key.low key.high (and_from (counts_on weekday band) (has_band band.prefix weekday band.start bands)
    (sym (counts_key c.args.by_days band weekday c.loop-day.day c.requires key.key) ∙ sym c.counts_on.ensures ∙ c.if-counts_on.true)
    (sym (finds_at c.args.by_days c.args.index.now bands (band_key_at c.args.row.now.prefix c.loop-day.day c.args.row.now.start) weekday indexed key) ∙ sym asked ∙ c.if-contains_key.true)))

pub returns : goal.returns
returns c bands indexed =
    let band = band_of c.args.row.now in
    let p : ℕ → Bool = λ day. counts_on day band && has_band band.prefix day band.start bands in
    sym (none_of_weekdays p (λ weekday low high. c.loop-day.invariant bands indexed weekday low high
    (omega (arith, c.loop-day-test.false, key_below c.args.by_days c.key_days-first.result.1 weekday c.key_days-first.ensures.end high))))
