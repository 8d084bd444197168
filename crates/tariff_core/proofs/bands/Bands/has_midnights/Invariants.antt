use Rattle.std.proofs.Common.{◌≡◌, ◌≤◌, ◌<◌, ℕ, true}
use Rattle.tariff_core.specs.Bands.{has_band}
use Rattle.tariff_core.specs.Digits.{text_of_digits}
use Rattle.tariff_core.specs.Tariff.{key_of}
use Rattle.tariff_core.proofs.bands.Bands.has_midnights.Given as goal

-- the weekdays so far have a row from midnight on
abbrev pub invariant-loop-day : goal.invariant-loop-day
invariant-loop-day l =
    (weekday : ℕ) → 1 ≤ weekday → weekday ≤ 7 → key_of l.self-inside.by_days weekday < l.day → has_band (text_of_digits l.prefix) weekday 0 l.self ≡ true
