use Rattle.std.proofs.Common.{◌≡◌, ◌≤◌, ◌<◌, ℕ, List, false}
use Rattle.std.specs.Prelude.{◌&&◌}
use Rattle.tariff_core.specs.Bands.{Band, counts_on, has_band}
use Rattle.tariff_core.specs.Tariff.{Indexes, band_of, key_of}
use Rattle.tariff_core.proofs.bands.is_repeated.Given as goal

-- on the weekdays so far no earlier row has the prefix and the start
abbrev pub invariant-loop-day : goal.invariant-loop-day
invariant-loop-day l =
    (bands : List Band) → Indexes l.by_days l.index bands → (weekday : ℕ) → 1 ≤ weekday → weekday ≤ 7 → key_of l.by_days weekday < l.day
    → (counts_on weekday (band_of l.row) && has_band (band_of l.row).prefix weekday l.row.start bands) ≡ false
