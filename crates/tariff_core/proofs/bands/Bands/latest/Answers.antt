use Rattle.std.proofs.Common.{◌≡◌, ◌+◌, ◌%◌, ◌<◌, ◌≤◌, true, inl, inr, arith}
use Rattle.std.specs.Prelude.{All}
use Rattle.std.proofs.lemmas.Bool.{cases_lt}
use Rattle.tariff_core.specs.Bands.{counts_on, weekday}
use Rattle.tariff_core.specs.Digits.{text_of_digits}
use Rattle.tariff_core.specs.declared.band_key.BandKey.{BandKey}
use Rattle.tariff_core.specs.declared.row.Row.{Row}
use Rattle.price_core.specs.declared.times.TheConstants.{DAY}
use Rattle.tariff_core.proofs.PrefixLemmas.{keyed_at}
use Rattle.tariff_core.proofs.RangeLemmas.{each_row, forward, if_none, last_is, last_latest, none_of}
use Rattle.tariff_core.proofs.bands.Bands.latest.Goals as goal

pub range-requires : goal.range-requires
range-requires c = forward c.args.prefix c.key_of-day.result 0 (c.since_midnight.result + 1) (omega arith)

pub returns-in_err-row-clause-none : goal.returns-in_err-row-clause-none
returns-in_err-row-clause-none c =
    let none = none_of c.self.inside.by_days (weekday c.args.now) c.key_of-day.result (keyed_at _ c.args.now _ _ c.weekday.ensures.value c.key_of-day.ensures) c.args.prefix 0 (c.since_midnight.result + 1) c.self.inside.index c.self.inside.rows.items c.range.result
    c.self.invariant.indexed (c.range.ensures.in_range tt) c.in_err-row.ensures.steps.0 in
    let all : All (λ band. band.prefix ≡ text_of_digits c.args.prefix → counts_on (weekday c.args.now) band ≡ true → c.args.now % DAY < band.start) c.args.self.now =
    rw (← c.self.view_is) (each_row c.self.inside.rows.items (λ band. band.prefix ≡ text_of_digits c.args.prefix → counts_on (weekday c.args.now) band ≡ true → c.args.now % DAY < band.start) (λ row listed own counts.
    elim (cases_lt (c.args.now % DAY) row.start) [
      | inl after ↦ after
      | inr begun ↦ absurd (none row listed (record { own = own; counts = counts; from_start = omega arith; to_end = omega (arith, begun, c.since_midnight.ensures.value) }))
    ])) in
    if_none c.from_residual.result _ all

pub returns-clause-row : goal.returns-clause-row
returns-clause-row c =
    let e : BandKey × Row = (c.in_ok-row.field-0-0.now, c.in_ok-row.row.now) in
    let entry = last_is c.self.inside.by_days (weekday c.args.now) c.key_of-day.result (keyed_at _ c.args.now _ _ c.weekday.ensures.value c.key_of-day.ensures) c.args.prefix 0 (c.since_midnight.result + 1) c.self.inside.index c.self.inside.rows.items c.range.result
    c.self.invariant.indexed (c.range.ensures.in_range tt) e c.next_back.new.self c.in_ok-row.ensures.steps in
    let latest = last_latest c.self.inside.by_days (weekday c.args.now) c.key_of-day.result (keyed_at _ c.args.now _ _ c.weekday.ensures.value c.key_of-day.ensures) c.args.prefix 0 (c.since_midnight.result + 1) c.self.inside.index c.self.inside.rows.items c.range.result
    c.self.invariant.indexed (c.range.ensures.in_range tt) e c.next_back.new.self c.in_ok-row.ensures.steps in
    rw (← c.self.view_is) (record {
      listed = entry.listed;
      own = entry.row_of.own;
      counts = entry.row_of.counts;
      begun = omega (arith, entry.row_of.to_end, c.since_midnight.ensures.value);
      latest = each_row c.self.inside.rows.items (λ other. other.prefix ≡ text_of_digits c.args.prefix → counts_on (weekday c.args.now) other ≡ true → other.start ≤ c.args.now % DAY → other.start ≤ c.in_ok-row.row.now.start) (λ row listed own counts begun.
          latest row listed (record { own = own; counts = counts; from_start = omega arith; to_end = omega (arith, begun, c.since_midnight.ensures.value) }));
    })
