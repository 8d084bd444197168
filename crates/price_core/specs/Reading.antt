-- What a report says of a call's times.
use Rattle.std.specs.Prelude.{◌+◌, ◌==◌, ◌&&◌, ◌||◌, ℕ, Bool, true, false, Option, Some, None, if◌then◌else◌, nat_le, nat_lt}
use Rattle.price_core.specs.Times.{Elapsed}
use Rattle.price_core.specs.declared.times.TimeInfo.{TimeInfo}
use Rattle.price_core.specs.declared.times.TimeInfo.TheVariants as info
use Rattle.price_core.specs.declared.times.TheConstants.{DAY}

-- whether the parts of a report lie within their ranges
abbrev pub is_time_info : TimeInfo → Bool
is_time_info (info.NoSwitch time) = nat_le time DAY
is_time_info (info.Switch since None) = nat_le since DAY
is_time_info (info.Switch since (Some interval)) = nat_le since DAY && nat_le 1 interval && nat_le interval DAY

-- the times that a report states, after those that were known. Where it is left out, the time before the switch is as known, or 0
abbrev pub times_stated : Elapsed → TimeInfo → Elapsed
times_stated old (info.NoSwitch time) = record { before = time; after = 0; switched = false }
times_stated old (info.Switch since None) = record { before = if old.switched then old.before else 0; after = since; switched = true }
times_stated old (info.Switch since (Some interval)) = record { before = interval; after = since; switched = true }

-- the times that are read from a report: none where they pass a day or a part is out of its range
abbrev pub times_read : Elapsed → TimeInfo → Option Elapsed
times_read old report =
    let times = times_stated old report in
    if is_time_info report && nat_le (times.before + times.after) DAY then Some times else None

-- the time before the switch that a report says, where it is within its range
abbrev pub interval_read : Elapsed → Option ℕ → Option ℕ
interval_read old None = Some (if old.switched then old.before else 0)
interval_read old (Some interval) = if (interval == 0) || nat_lt DAY interval then None else Some interval
