use Rattle.std.proofs.Common.{◌≡◌, ◌+◌, ◌%◌, ◌<◌, ◌≤◌, true, inl, inr, arith}
use Rattle.std.specs.Prelude.{All}
use Rattle.std.proofs.lemmas.Bool.{cases_lt}
use Rattle.tariff_core.specs.Bands.{counts_on, weekday}
use Rattle.tariff_core.specs.Digits.{text_of_digits}
use Rattle.tariff_core.specs.declared.band_key.BandKey.{BandKey}
use Rattle.tariff_core.specs.declared.row.Row.{Row}
use Rattle.price_core.specs.declared.times.TheConstants.{DAY}
use Rattle.tariff_core.proofs.PrefixLemmas.{keyed_at}
use Rattle.tariff_core.proofs.RangeLemmas.{each_row, first_is, first_soonest, forward, if_none, none_of}
use Rattle.tariff_core.proofs.bands.Bands.soonest.Goals as goal

pub range-requires : goal.range-requires
range-requires c = forward c.args.prefix c.key_of-day.result (c.since_midnight-start.result + 1) 864000 (omega (arith, c.since_midnight-start.ensures.in_day))

pub returns-in_err-row-clause-none : goal.returns-in_err-row-clause-none
returns-in_err-row-clause-none c =
    let none = none_of c.self.inside.by_days (weekday c.args.now) c.key_of-day.result (keyed_at _ c.args.now _ _ c.weekday.ensures.value c.key_of-day.ensures) c.args.prefix (c.since_midnight-start.result + 1) 864000 c.self.inside.index c.self.inside.rows.items c.range.result
    c.self.invariant.indexed (c.range.ensures.in_range tt) c.in_err-row.ensures.steps.0 in
    let all : All (λ band. band.prefix ≡ text_of_digits c.args.prefix → counts_on (weekday c.args.now) band ≡ true → band.start ≤ c.args.now % DAY) c.args.self.now =
    rw (← c.self.view_is) (each_row c.self.inside.rows.items (λ band. band.prefix ≡ text_of_digits c.args.prefix → counts_on (weekday c.args.now) band ≡ true → band.start ≤ c.args.now % DAY) (λ row listed own counts.
    elim (cases_lt (c.args.now % DAY) row.start) [
      | inl after ↦ absurd (none row listed (record { own = own; counts = counts; from_start = omega (arith, after, c.since_midnight-start.ensures.value); to_end = row.in_day }))
      | inr begun ↦ begun
    ])) in
    if_none c.from_residual.result _ all

pub returns-clause-row : goal.returns-clause-row
returns-clause-row c =
    let e : BandKey × Row = (c.in_ok-row.field-0-0.now, c.in_ok-row.row.now) in
    let entry = first_is c.self.inside.by_days (weekday c.args.now) c.key_of-day.result (keyed_at _ c.args.now _ _ c.weekday.ensures.value c.key_of-day.ensures) c.args.prefix (c.since_midnight-start.result + 1) 864000 c.self.inside.index c.self.inside.rows.items c.range.result
    c.self.invariant.indexed (c.range.ensures.in_range tt) e c.next.new.self c.in_ok-row.ensures.steps in
    let soonest = first_soonest c.self.inside.by_days (weekday c.args.now) c.key_of-day.result (keyed_at _ c.args.now _ _ c.weekday.ensures.value c.key_of-day.ensures) c.args.prefix (c.since_midnight-start.result + 1) 864000 c.self.inside.index c.self.inside.rows.items c.range.result
    c.self.invariant.indexed (c.range.ensures.in_range tt) e c.next.new.self c.in_ok-row.ensures.steps in
    rw (← c.self.view_is) (record {
      listed = entry.listed;
      own = entry.row_of.own;
      counts = entry.row_of.counts;
      later = omega (arith, entry.row_of.from_start, c.since_midnight-start.ensures.value);
      soonest = each_row c.self.inside.rows.items (λ other. other.prefix ≡ text_of_digits c.args.prefix → counts_on (weekday c.args.now) other ≡ true → c.args.now % DAY < other.start → c.in_ok-row.row.now.start ≤ other.start) (λ row listed own counts after.
          soonest row listed (record { own = own; counts = counts; from_start = omega (arith, after, c.since_midnight-start.ensures.value); to_end = row.in_day }));
    })
