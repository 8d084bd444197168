use Rattle.std.proofs.Common.{◌≡◌, ◌∙◌, ◌+◌, ◌%◌, sym, arith}
use Rattle.std.specs.Prelude.{◌≢◌}
use Rattle.tariff_core.specs.Digits.{text_of_digits}
use Rattle.tariff_core.specs.Routes.{IsBandAt, IsOnly, IsSoonest}
use Rattle.tariff_core.specs.Tariff.{band_of}
use Rattle.tariff_core.proofs.RangeLemmas.{if_none}
use Rattle.tariff_core.proofs.SwitchLemmas.{at_midnight, from_midnight, in_day, midnight, next_time, none_later, not_begun, not_counting, on_next_day, since_midnight, through, today}
use Rattle.tariff_core.proofs.tariff.Tariff.switch.Goals as goal
use Rattle.tariff_core.proofs.tariff.Tariff.switch.Goals.{then-band-gt0-via-then-band-gt0, then-band-gt0-via-else-band-gt0+then-not-counts_on}

pub returns-in-Some-clause-switch : goal.returns-in-Some-clause-switch
returns-in-Some-clause-switch c =
    let soonest : IsSoonest c.args.self.now (text_of_digits c.args.prefix) c.args.now (band_of c.in-Some.next) = rw (← c.self.view_is) c.in-Some.ensures.row in
    let began : c.from.result ≡ c.args.now % 864000 = c.from.ensures ∙ c.since_midnight.ensures.value in
    rw (began, c.from-in-Some.ensures) (today c.args.self.now (text_of_digits c.args.prefix) c.args.now (band_of c.args.band) (band_of c.in-Some.next) c.requires.band soonest c.in-Some.next.in_day)

pub returns-then-band-gt0-clause-switch : goal.returns-then-band-gt0-clause-switch
returns-then-band-gt0-clause-switch c =
    let bands = c.args.self.now in
    let prefix = text_of_digits c.args.prefix in
    let now = c.args.now in
    let band = band_of c.args.band in
    let next = band_of c.band_at-next.result in
    let view : c.self.inside.bands ≡ bands = c.self.view_is in
    let began : c.from.result ≡ now % 864000 = c.from.ensures ∙ c.since_midnight.ensures.value in
    let is : IsBandAt bands prefix (midnight now + 864000) next = rw (began, c.from-2.ensures) at c.band_at-next.ensures in
    let is_another : next ≢ band = elim c.then-band-gt0.branch [
      | then-band-gt0-via-then-band-gt0 w ↦ not_begun bands prefix now band next w.if-band-gt0.true is
      | then-band-gt0-via-else-band-gt0+then-not-counts_on w ↦
          let counts = rw (w.weekday.ensures.value, began, c.from-2.ensures) at w.counts_on.ensures in
          not_counting bands prefix (midnight now + 864000) band next (sym counts ∙ w.if-not-counts_on.true) is
    ] in
    rw (began, c.from-2.ensures) (at_midnight bands prefix now band next c.requires.band (none_later bands prefix now (rw view at c.in_default.ensures.none)) is is_another)

pub returns-in_err-next-clause-only : goal.returns-in_err-next-clause-only
returns-in_err-next-clause-only c =
    let bands = c.args.self.now in
    let prefix = text_of_digits c.args.prefix in
    let now = c.args.now in
    let band = band_of c.args.band in
    let view : c.self.inside.bands ≡ bands = c.self.view_is in
    let began : c.from.result ≡ now % 864000 = c.from.ensures ∙ c.since_midnight.ensures.value in
    let counts = rw (c.weekday.ensures.value, began, c.from-2.ensures) at c.counts_on.ensures in
    let tomorrow = from_midnight bands prefix now (midnight now + 864000) band c.requires.band (next_time now) (omega (arith, c.if-band-gt0.false)) (sym counts ∙ c.if-not-counts_on.false) in
    let later = rw (view, began, c.from-2.ensures) at c.in_err-next.ensures.none in
    let only : IsOnly bands prefix band now = λ moment from to.
    through bands prefix now moment 864000 band c.requires.band (none_later bands prefix now (rw view at c.in_default.ensures.none)) tomorrow
    (none_later bands prefix (midnight now + 864000) later) (omega arith) from (omega (arith, to, since_midnight now, in_day now)) in
    if_none c.from_residual.result _ only

pub returns-then-at-now-clause-only : goal.returns-then-at-now-clause-only
returns-then-at-now-clause-only c moment from to =
    let bands = c.args.self.now in
    let prefix = text_of_digits c.args.prefix in
    let now = c.args.now in
    let band = band_of c.args.band in
    let next = band_of c.in_ok-next.next in
    let view : c.self.inside.bands ≡ bands = c.self.view_is in
    let began : c.from.result ≡ now % 864000 = c.from.ensures ∙ c.since_midnight.ensures.value in
    let counts = rw (c.weekday.ensures.value, began, c.from-2.ensures) at c.counts_on.ensures in
    let tomorrow = from_midnight bands prefix now (midnight now + 864000) band c.requires.band (next_time now) (omega (arith, c.if-band-gt0.false)) (sym counts ∙ c.if-not-counts_on.false) in
    let soonest : IsSoonest bands prefix (midnight now + 864000) next = rw (view, began, c.from-2.ensures) at c.in_ok-next.ensures.row in
    let past = rw (began, c.from-2.ensures, c.from-3.ensures, c.from-4.ensures) at c.if-at-now.true in
    through bands prefix now moment c.in_ok-next.next.start band c.requires.band (none_later bands prefix now (rw view at c.in_default.ensures.none)) tomorrow soonest.soonest
    (omega (arith, c.in_ok-next.next.in_day)) from (omega (arith, to, past))

pub returns-clause-switch : goal.returns-clause-switch
returns-clause-switch c =
    let bands = c.args.self.now in
    let prefix = text_of_digits c.args.prefix in
    let now = c.args.now in
    let band = band_of c.args.band in
    let next = band_of c.in_ok-next.next in
    let view : c.self.inside.bands ≡ bands = c.self.view_is in
    let began : c.from.result ≡ now % 864000 = c.from.ensures ∙ c.since_midnight.ensures.value in
    let counts = rw (c.weekday.ensures.value, began, c.from-2.ensures) at c.counts_on.ensures in
    let tomorrow = from_midnight bands prefix now (midnight now + 864000) band c.requires.band (next_time now) (omega (arith, c.if-band-gt0.false)) (sym counts ∙ c.if-not-counts_on.false) in
    let soonest : IsSoonest bands prefix (midnight now + 864000) next = rw (view, began, c.from-2.ensures) at c.in_ok-next.ensures.row in
    let within = rw (began, c.from-2.ensures, c.from-3.ensures, c.from-4.ensures) at c.if-at-now.false in
    rw (began, c.from-2.ensures, c.from-3.ensures) (on_next_day bands prefix now band next c.requires.band (none_later bands prefix now (rw view at c.in_default.ensures.none)) tomorrow
    (omega (arith, c.if-band-gt0.false)) soonest c.in_ok-next.next.in_day within)
